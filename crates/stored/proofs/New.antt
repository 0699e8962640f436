-- A new file of good records is read back as these records, and a file that is read as records is theirs.
-- Its ten first bytes are five numbers, each told by two bytes and telling them; behind them each record is told by where it stands.
use mathlib.Core.Path.{◌≡◌, refl, sym, ap, ◌∙◌}
use mathlib.Core.Bool.{Bool, true, false, cond, and-eq-true_iff}
use mathlib.Core.List.{List, [], ◌∷◌, ◌++◌, append-nil}
use mathlib.Core.Option.{none, some, some-injective}
use Prim.Native.Nat.{ℕ, zero, suc, ◌+◌, ◌*◌, ◌/◌, ◌%◌, ◌≤◌, ◌<◌}
use native.Mathlib.Omega.{arith}
use lib.Dec.{eqb, leb}
use lib.ListN.{length, get_or, take, drop, length-drop, take-append-drop}
use lib.Seq.{drop-drop, drop-cons, take_at, drop_at, take_all}
use borrow.Author.Tests.{eq-eqb, eqb-true, le-leb, leb-true}
use Rattle.answers.specs.declared.Placed.{Placed}
use Rattle.answers.specs.Lists.{All, bytes_from}
use Rattle.answers.specs.Table.{Verdict, done, refused, first, outcome}
use Rattle.answers.specs.Effect.{tested, placed, or_later}
use Rattle.answers.proofs.Lists.{all_left, all_right, all_get}
use Rattle.answers.proofs.Rows.{IsRefusal, first_passed, done_passed, first_number, tested_passed}
use Rattle.fields.specs.Fields.{size}
use Rattle.messages.specs.Kinds.{master}
use Rattle.messages.proofs.Numbers.{given_refusals}
use Rattle.stored.specs.Records.{Record, of_patch, of_master, kind_for, number_for, packed_for, stored, each}
use Rattle.stored.specs.Records.{master_last, patches_in, masters_in, patches_most}
use Rattle.stored.specs.Records.{patches_at, master_at, total_of, sixteen_bits, header, new_file}
use Rattle.stored.specs.Files.{number_at, headed, patches_from, masters_from, records_of, new_records, rows_for, first_bad}
use Rattle.stored.specs.promises.BothWays.{Good, IsUnit}
use Rattle.stored.proofs.Lengths.{good_silent, length_packed, length_new, none_stand_behind, unit_form}

-- The records behind the header, from the bytes t on.
abbrev behind : ℕ → ℕ → List ℕ → List Record
behind n m t = patches_from n t ++ masters_from m (drop (suc size * n) t)

-- They are those of the file.
from_header : (n m : ℕ) (t : List ℕ) → records_of n m t ≡ behind n m (drop patches_at t)
from_header n m t = rw (drop-drop (suc size * n) patches_at t)

-- One patch more stands before the others.
patch_more : (n m : ℕ) (t : List ℕ) → behind (suc n) m t ≡ of_patch (get_or t 0 0) (take size (drop 1 t)) ∷ behind n m (drop (suc size) t)
unfolding patches_from
patch_more n m t =
    let further : suc size * suc n ≡ suc size + suc size * n = omega arith in
    rw (further, drop-drop (suc size * n) (suc size) t)

-- Good records that are stored are found again.
found_again : (rs : List Record) → master_last rs ≡ true → All Good rs → behind (patches_in rs) (masters_in rs) (each stored rs) ≡ rs
unfolding each patches_from masters_from
found_again [] e g = refl
found_again (of_patch n p ∷ rs) e g =
    let l = length_packed (of_patch n p) g.0 in
    patch_more (patches_in rs) (masters_in rs) (n ∷ (p ++ each stored rs))
    ∙ rw (take_at p (each stored rs) size l, drop_at p (each stored rs) size l, found_again rs e g.1)
found_again (of_master m ∷ rs) e g =
    let l = length_packed (of_master m) g.0 in
    rw (none_stand_behind rs e) (rw (take_at m [] master l))

-- Two bytes tell a number.
number_back : (v : ℕ) → v % 256 + 256 * (v / 256) ≡ v
number_back v = omega arith

module _ (rs : List Record) (unit : IsUnit rs) where
  -- The header of a unit's new file is as it has to be.
  new_headed : headed (new_file rs) ≡ true
  unfolding headed new_file
  new_headed =
      let n = patches_in rs in
      let m = masters_in rs in
      let f = unit_form rs unit.form in
      let l = length_new rs unit.good in
      rw (number_back n, number_back m, number_back (master_at n), number_back (total_of n m))
      (rw (le-leb n patches_most f.1, le-leb m 1 f.2, eq-eqb (master_at n) (master_at n) refl, eq-eqb (total_of n m) (total_of n m) refl)
      (eq-eqb (length (new_file rs)) (total_of n m) l))

  -- Its records are the unit's.
  pub records_of_new : new_records (new_file rs) ≡ some rs
  unfolding new_records new_file
  records_of_new =
      let n = patches_in rs in
      let m = masters_in rs in
      rw (new_headed, number_back n, number_back m)
      (ap some (from_header n m (new_file rs) ∙ found_again rs (unit_form rs unit.form).0 unit.good))

-- None of good records is bad.
pub none_bad : (rs : List Record) (p : ℕ) → All Good rs → first_bad p rs ≡ none
unfolding first_bad
none_bad [] p g = refl
none_bad (r ∷ rs) p g =
    rw (first_passed (rows_for r) (done 0 [] []) (good_silent r g.0)) (none_bad rs (p + length (stored r)) g.1)

-- Records none of which is bad pass their writers' tests.
all_pass : (rs : List Record) (p : ℕ) → first_bad p rs ≡ none → All (λ r. tested (rows_for r) ≡ outcome 0 0) rs
unfolding first_bad
all_pass [] p e = tt
all_pass (r ∷ rs) p e = go (first (rows_for r) (done 0 [] [])) refl e (all_pass rs (p + length (stored r)))
  where
    go : (v : Verdict) → first (rows_for r) (done 0 [] []) ≡ v → or_later p v (first_bad (p + length (stored r)) rs) ≡ none
        → (first_bad (p + length (stored r)) rs ≡ none → All (λ r. tested (rows_for r) ≡ outcome 0 0) rs)
        → All (λ r. tested (rows_for r) ≡ outcome 0 0) (r ∷ rs)
    go (done o b q) h e i = (tested_passed (rows_for r) (done_passed (rows_for r) (done 0 [] []) o b q h).0, i e)
    go (refused o) h e i = let z : ◌≡◌ {A = ℕ} 0 1 = cc in absurd (omega arith)

-- The number of a bad record is not 0.
pub bad_not_zero : (rs : List Record) (p : ℕ) (k : Placed) → first_bad p rs ≡ some k → k.outcome.answer ≡ 0 → ⊥
unfolding first_bad
bad_not_zero [] p k e z = let y : ◌≡◌ {A = ℕ} 0 1 = cc in omega arith
bad_not_zero (r ∷ rs) p k e z = go (first (rows_for r) (done 0 [] [])) refl e (bad_not_zero rs (p + length (stored r)) k)
  where
    go : (v : Verdict) → first (rows_for r) (done 0 [] []) ≡ v → or_later p v (first_bad (p + length (stored r)) rs) ≡ some k
        → (first_bad (p + length (stored r)) rs ≡ some k → k.outcome.answer ≡ 0 → ⊥) → ⊥
    go (done o b q) h e i = i e z
    go (refused o) h e i =
        let same = some-injective (placed o p) k e in
        let number = first_number IsRefusal (rows_for r) 0 [] [] o (given_refusals (kind_for r) (number_for r) (packed_for r)) h in
        omega (arith, ap (λ (x : Placed). x.outcome.answer) same, number)

-- With bytes that are bytes they are good.
all_good : (rs : List Record) → All (λ r. tested (rows_for r) ≡ outcome 0 0) rs → All (λ b. b < 256) (each stored rs) → All Good rs
unfolding each
all_good [] a b = tt
all_good (r ∷ rs) a b =
    let here = all_right _ (number_for r) (packed_for r) (all_left _ (stored r) (each stored rs) b) in
    (record { passes = a.0; bytes = here }, all_good rs a.1 (all_right _ (stored r) (each stored rs) b))

-- Records that stand in the bytes t: n patches and then m masters.
record Stand (n m : ℕ) (t : List ℕ) (rs : List Record) : Type 0 where
  patches : patches_in rs ≡ n
  masters : masters_in rs ≡ m
  last : master_last rs ≡ true
  bytes : each stored rs ≡ t

-- Bytes of the right length are those of the records found there.
stand : (n m : ℕ) (t : List ℕ) → m ≤ 1 → length t ≡ suc size * n + master * m → Stand n m t (behind n m t)
unfolding each patches_from masters_from
stand zero zero t few l = record { patches = refl; masters = refl; last = refl; bytes = take_all 0 t (omega arith) }
stand zero (suc zero) t few l =
    record { patches = refl; masters = refl; last = refl; bytes = append-nil (take master t) ∙ take_all master t (omega arith) }
stand zero (suc (suc m)) t few l = absurd (omega arith)
stand (suc n) m [] few l = absurd (omega arith)
stand (suc n) m (x ∷ t) few l =
    let i = stand n m (drop size t) few (simp length-drop (omega arith)) in
    rw (patch_more n m (x ∷ t)) (record {
      patches = ap suc i.patches;
      masters = i.masters;
      last = i.last;
      bytes = ap (λ (w : List ℕ). x ∷ (take size t ++ w)) i.bytes ∙ ap (◌∷◌ x) (take-append-drop size t);
    })

-- Bytes from place i on: the first n of them, then the others.
bytes_then : (n i : ℕ) (t : List ℕ) → i + n ≤ length t → drop i t ≡ bytes_from n i t ++ drop (i + n) t
bytes_then zero i t h = let None-more : i + 0 ≡ i = omega arith in rw None-more
bytes_then (suc n) i t h =
    let further : i + suc n ≡ suc i + n = omega arith in
    drop-cons t i 0 (omega arith) ∙ ap (◌∷◌ (get_or t i 0)) (rw further (bytes_then n (suc i) t (omega arith)))

-- A number tells the two bytes that told it.
sixteen : (a b : ℕ) → a < 256 → sixteen_bits (a + 256 * b) ≡ a ∷ b ∷ []
sixteen a b h =
    let low : (a + 256 * b) % 256 ≡ a = omega arith in
    let high : (a + 256 * b) / 256 ≡ b = omega arith in
    rw (low, high)

-- What a file's header has to be.
record Headed (t : List ℕ) : Type 0 where
  few : number_at t 0 ≤ patches_most
  patches : number_at t 1 ≡ patches_at
  one : number_at t 2 ≤ 1
  its_master : number_at t 3 ≡ master_at (number_at t 0)
  total : number_at t 4 ≡ total_of (number_at t 0) (number_at t 2)
  long : length t ≡ total_of (number_at t 0) (number_at t 2)

-- It is tested so.
is_headed : (t : List ℕ) → headed t ≡ true → Headed t
unfolding headed
is_headed t e =
    let a = (and-eq-true_iff (leb (number_at t 0) patches_most) _).0 e in
    let b = (and-eq-true_iff (eqb (number_at t 1) patches_at) _).0 a.1 in
    let c = (and-eq-true_iff (leb (number_at t 2) 1) _).0 b.1 in
    let d = (and-eq-true_iff (eqb (number_at t 3) (master_at (number_at t 0))) _).0 c.1 in
    let f = (and-eq-true_iff (eqb (number_at t 4) (total_of (number_at t 0) (number_at t 2))) _).0 d.1 in
    record {
      few = leb-true (number_at t 0) patches_most a.0;
      patches = eqb-true (number_at t 1) patches_at b.0;
      one = leb-true (number_at t 2) 1 c.0;
      its_master = eqb-true (number_at t 3) (master_at (number_at t 0)) d.0;
      total = eqb-true (number_at t 4) (total_of (number_at t 0) (number_at t 2)) f.0;
      long = eqb-true (length t) (total_of (number_at t 0) (number_at t 2)) f.1;
    }

-- A file of bytes that is headed so.
module _ (t : List ℕ) (bytes : All (λ b. b < 256) t) (h : Headed t) where
  -- Each of its numbers tells the two bytes where it stands.
  two : (k : ℕ) → k < 5 → sixteen_bits (number_at t k) ≡ get_or t (2 * k) 0 ∷ get_or t (2 * k + 1) 0 ∷ []
  two k l = sixteen (get_or t (2 * k) 0) (get_or t (2 * k + 1) 0) (all_get (λ b. b < 256) t (2 * k) 0 (omega (arith, h.long)) bytes)

  -- So its first ten bytes are the header of its counts.
  header_back : header (number_at t 0) (number_at t 2) ≡ bytes_from 10 0 t
  header_back =
      let a = two 0 (omega arith) in
      let b = ap sixteen_bits (sym h.patches) ∙ two 1 (omega arith) in
      let c = two 2 (omega arith) in
      let d = ap sixteen_bits (sym h.its_master) ∙ two 3 (omega arith) in
      let e = ap sixteen_bits (sym h.total) ∙ two 4 (omega arith) in
      cc

  -- Its records stand in the bytes behind them.
  its_records : Stand (number_at t 0) (number_at t 2) (drop patches_at t) (records_of (number_at t 0) (number_at t 2) t)
  its_records =
      let n = number_at t 0 in
      let m = number_at t 2 in
      rw (from_header n m t) (stand n m (drop patches_at t) h.one (simp length-drop (omega (arith, h.long))))

  -- It is their new file.
  its_file : t ≡ new_file (records_of (number_at t 0) (number_at t 2) t)
  unfolding new_file
  its_file =
      let s = its_records in
      rw (s.patches, s.masters, s.bytes)
      (bytes_then 10 0 t (omega (arith, h.long)) ∙ ap (λ (w : List ℕ). w ++ drop patches_at t) (sym header_back))

  -- They are a unit's where none is bad.
  its_unit : first_bad patches_at (records_of (number_at t 0) (number_at t 2) t) ≡ none → IsUnit (records_of (number_at t 0) (number_at t 2) t)
  its_unit e =
      let s = its_records in
      let rs = records_of (number_at t 0) (number_at t 2) t in
      let behind_it = all_right (λ b. b < 256) (take patches_at t) (drop patches_at t) (rw (take-append-drop patches_at t) bytes) in
      record {
        form = rw (s.last, s.patches) (le-leb (number_at t 0) patches_most h.few);
        good = all_good rs (all_pass rs patches_at e) (rw s.bytes behind_it);
      }

-- A file that is read as records, none of them bad, is a unit's new file.
pub new_read : (t : List ℕ) (rs : List Record) → All (λ b. b < 256) t → new_records t ≡ some rs → first_bad patches_at rs ≡ none
    → (t ≡ new_file rs) × IsUnit rs
unfolding new_records
new_read t rs bytes e good = go (headed t) refl e
  where
    go : (v : Bool) → headed t ≡ v → cond v (some (records_of (number_at t 0) (number_at t 2) t)) none ≡ some rs → (t ≡ new_file rs) × IsUnit rs
    go true q e =
        let same = some-injective (records_of (number_at t 0) (number_at t 2) t) rs e in
        let h = is_headed t q in
        rw (← same) (its_file t bytes h, its_unit t bytes h (rw (← same) at good))
    go false q e = let z : ◌≡◌ {A = ℕ} 0 1 = cc in absurd (omega arith)
