-- What a good record comes to: its writer's rows say nothing, so its dump is accepted with it, and its lengths are those of its kind.
-- A file's length follows by its records, one after another.
use mathlib.Core.Path.{◌≡◌, refl, ap}
use mathlib.Core.Bool.{true, and-eq-true_iff}
use mathlib.Core.List.{List, [], ◌∷◌}
use Prim.Native.Nat.{ℕ, suc, ◌+◌, ◌*◌, ◌≤◌}
use native.Mathlib.Nat.{mul-suc}
use native.Mathlib.Omega.{arith}
use lib.Dec.{leb}
use lib.ListN.{length, length-append}
use borrow.Author.Tests.{leb-true}
use Rattle.answers.specs.declared.Outcome.{Outcome}
use Rattle.answers.specs.Lists.{All}
use Rattle.answers.specs.Table.{answer_of}
use Rattle.answers.specs.promises.Decides.{Silent}
use Rattle.answers.proofs.Lists.{all_weaken}
use Rattle.answers.proofs.Rows.{answered_silent, row_equal}
use Rattle.fields.specs.Fields.{size}
use Rattle.messages.specs.Kinds.{master, kind_of}
use Rattle.messages.specs.Layout.{dump}
use Rattle.messages.proofs.Numbers.{given_refusals, done_kind}
use Rattle.messages.proofs.Written.{Sound, sound}
use Rattle.stored.specs.Records.{Record, of_patch, of_master, kind_for, number_for, packed_for, dumped, stored, each}
use Rattle.stored.specs.Records.{none_behind, master_last, patches_in, masters_in, patches_most, of_unit, old_file, total_of, new_file}
use Rattle.stored.specs.Files.{rows_for}
use Rattle.stored.specs.promises.BothWays.{Good, IsUnit}

-- Its writer's rows say nothing.
pub good_silent : (r : Record) → Good r → Silent (rows_for r)
good_silent r g =
    answered_silent (rows_for r) (given_refusals (kind_for r) (number_for r) (packed_for r)) (ap (λ (o : Outcome). o.answer) g.passes)

-- Its dump is accepted with it.
pub good_sound : (r : Record) → Good r → Sound (kind_for r) (number_for r) (packed_for r)
unfolding kind_of
good_sound (of_patch n p) g = sound (kind_for (of_patch n p)) (n ∷ []) p refl refl tt (good_silent (of_patch n p) g)
good_sound (of_master m) g = sound (kind_for (of_master m)) [] m refl refl g.bytes (good_silent (of_master m) g)

-- One number for a patch, another for a master.
abbrev pub by_kind : ℕ → ℕ → Record → ℕ
by_kind a b (of_patch n p) = a
by_kind a b (of_master m) = b

-- It packs 134 bytes or 172.
pub length_packed : (r : Record) → Good r → length (packed_for r) ≡ by_kind size master r
length_packed (of_patch n p) g = row_equal 7 (length p) size (good_silent (of_patch n p) g).0
length_packed (of_master m) g = row_equal 7 (length m) master (good_silent (of_master m) g).0

-- So it is stored in 135 or 172.
pub length_stored : (r : Record) → Good r → length (stored r) ≡ by_kind (suc size) master r
length_stored (of_patch n p) g = ap suc (length_packed (of_patch n p) g)
length_stored (of_master m) g = length_packed (of_master m) g

-- Its dump has the length of its kind.
pub length_dumped : (r : Record) → Good r → length (dumped r) ≡ by_kind 275 351 r
unfolding kind_of dump
length_dumped (of_patch n p) g = (done_kind (dumped (of_patch n p)) (ap answer_of (good_sound (of_patch n p) g).accepted)).long
length_dumped (of_master m) g = (done_kind (dumped (of_master m)) (ap answer_of (good_sound (of_master m) g).accepted)).long

-- Records one after another, a bytes for a patch and b for a master.
pub length_each : (form : Record → List ℕ) (a b : ℕ) (rs : List Record) → All (λ r. length (form r) ≡ by_kind a b r) rs
    → length (each form rs) ≡ a * patches_in rs + b * masters_in rs
unfolding each
length_each form a b [] h = omega arith
length_each form a b (of_patch n p ∷ rs) h =
    omega (arith, h.0, length_each form a b rs h.1, length-append (form (of_patch n p)) (each form rs), mul-suc a (patches_in rs))
length_each form a b (of_master m ∷ rs) h =
    omega (arith, h.0, length_each form a b rs h.1, length-append (form (of_master m)) (each form rs), mul-suc b (masters_in rs))

-- The two files of good records.
module _ (rs : List Record) (good : All Good rs) where
  -- The old one has 275 bytes for each patch and 351 for a master.
  pub length_old : length (old_file rs) ≡ 275 * patches_in rs + 351 * masters_in rs
  length_old = length_each dumped 275 351 rs (all_weaken _ _ length_dumped rs good)

  -- The new one has 135 and 172 behind its header.
  pub length_records : length (each stored rs) ≡ suc size * patches_in rs + master * masters_in rs
  length_records = length_each stored (suc size) master rs (all_weaken _ _ length_stored rs good)

  -- So its length is the total that its header tells.
  pub length_new : length (new_file rs) ≡ total_of (patches_in rs) (masters_in rs)
  unfolding new_file
  length_new = omega (arith, length_records)

-- No record stands behind a master.
pub none_stand_behind : (rs : List Record) → none_behind rs ≡ true → rs ≡ []
none_stand_behind [] e = refl
none_stand_behind (r ∷ rs) e = let z : ◌≡◌ {A = ℕ} 0 1 = cc in absurd (omega arith)

-- So there is at most one.
pub one_master : (rs : List Record) → master_last rs ≡ true → masters_in rs ≤ 1
one_master [] e = omega arith
one_master (of_patch n p ∷ rs) e = one_master rs e
one_master (of_master m ∷ rs) e = rw (none_stand_behind rs e) (omega arith)

-- The form of a unit's records: a master only behind the patches, and at most 100 of these.
pub unit_form : (rs : List Record) → of_unit rs ≡ true → (master_last rs ≡ true) × (patches_in rs ≤ patches_most) × (masters_in rs ≤ 1)
unit_form rs e =
    let h = (and-eq-true_iff (master_last rs) (leb (patches_in rs) patches_most)).0 e in
    (h.0, leb-true (patches_in rs) patches_most h.1, one_master rs h.0)

-- No unit's old file is longer than that of 100 patches and a master.
pub old_most : (rs : List Record) → IsUnit rs → length (old_file rs) ≤ 27851
old_most rs u = omega (arith, length_old rs u.good, unit_form rs u.form)

-- Nor is its new file.
pub new_most : (rs : List Record) → IsUnit rs → length (new_file rs) ≤ 13682
new_most rs u = omega (arith, length_new rs u.good, unit_form rs u.form)
