-- An old file of good records is read back as these records, and a file that is read as records is theirs, less its real time.
-- The scan reports a dump and goes on behind it; and back, each report starts where the last one ended, and what is accepted is as written.
use mathlib.Core.Path.{◌≡◌, refl, sym, ap, ◌∙◌, subst}
use mathlib.Core.Bool.{Bool, true, false, cond}
use mathlib.Core.List.{List, [], ◌∷◌, ◌++◌}
use mathlib.Core.Option.{Option, none, some, some-injective}
use Prim.Native.Nat.{ℕ, zero, suc, ◌+◌, ◌-◌, ◌≤◌, ◌<◌}
use native.Mathlib.Nat.{zero-add}
use native.Mathlib.Omega.{arith}
use lib.Dec.{eqb}
use lib.ListN.{length, get_or, take, drop, length-append, length-drop, drop_of_length-le, take-append-drop}
use lib.Seq.{drop-drop}
use borrow.Author.Tests.{eq-eqb, eqb-true}
use Rattle.answers.specs.declared.Placed.{Placed}
use Rattle.answers.specs.Lists.{All}
use Rattle.answers.specs.Table.{Verdict, done, refused, outcome_of, answer_of}
use Rattle.answers.specs.Effect.{placed}
use Rattle.answers.specs.promises.Decides.{Silent}
use Rattle.answers.proofs.Lists.{spelled}
use Rattle.answers.proofs.Rows.{tested_passed, row_equal}
use Rattle.streams.specs.Bytes.{framed, without_real_time}
use Rattle.streams.specs.Stream.{Report, between, walk, reports}
use Rattle.streams.specs.code.Scan.{outside, scan}
use Rattle.streams.proofs.Walk.{Found, Walked, nothing, message, walked, reports_scan}
use Rattle.streams.proofs.Complete.{complete, without_append}
use Rattle.nibbles.specs.Nibbles.{nibbles, sum}
use Rattle.nibbles.proofs.Laws.{length_nibbles}
use Rattle.fields.specs.Fields.{size}
use Rattle.messages.specs.declared.kinds.Dump.{Dump}
use Rattle.messages.specs.declared.kinds.Kind.{Kind}
use Rattle.messages.specs.declared.kinds.Kind.TheVariants.{Dump as of_dump}
use Rattle.messages.specs.Kinds.{master, size_of, single_patch, master_parameters, opcode_of, kind_of, Filed}
use Rattle.messages.specs.Judge.{judge}
use Rattle.messages.specs.Layout.{dump, record_for}
use Rattle.messages.specs.promises.Given.{Given}
use Rattle.messages.proofs.DumpLaws.{dump_passed}
use Rattle.messages.proofs.AsWritten.{accepted}
use Rattle.messages.proofs.Scanned.{sound_scanned}
use Rattle.stored.specs.Records.{Record, of_patch, of_master, kind_for, number_for, packed_for, dumped, each, of_unit, old_file}
use Rattle.stored.specs.Files.{keeps, first_kept, record_in, and_those, records_from, if_unit, old_records, rows_for}
use Rattle.stored.specs.promises.BothWays.{Good, IsUnit}
use Rattle.stored.proofs.Lengths.{good_sound}

-- A dump's record is read back.
record_lies_in : (r : Record) → record_in (record_for (kind_for r) (number_for r) (packed_for r)) ≡ some r
record_lies_in (of_patch n p) = refl
record_lies_in (of_master m) = refl

-- Good records one after another from place p on: none of their dumps is refused, and they are the records from there to the end.
scanned : (rs : List Record) (p : ℕ) → All Good rs → (first_kept (scan judge p outside (old_file rs)) ≡ none)
    × (records_from p (p + length (old_file rs)) (scan judge p outside (old_file rs)) ≡ some rs)
unfolding each first_kept records_from
scanned [] p g = (refl, rw (eq-eqb p (p + 0) (omega arith)))
scanned (r ∷ rs) p g =
    let d = dumped r in
    let i = scanned rs (p + length d) g.1 in
    let end : p + length (d ++ old_file rs) ≡ p + length d + length (old_file rs) = omega (arith, length-append d (old_file rs)) in
    rw (sound_scanned (kind_for r) (number_for r) (packed_for r) (good_sound r g.0) p (old_file rs))
    (i.0, rw (eq-eqb p p refl, record_lies_in r, end, i.1))

module _ (rs : List Record) (unit : IsUnit rs) where
  -- No message of a unit's old file is refused.
  pub old_kept : first_kept (reports judge (old_file rs)) ≡ none
  old_kept = rw (reports_scan judge (old_file rs)) (scanned rs 0 unit.good).0

  -- Its records are the unit's.
  pub records_of_old : old_records (old_file rs) ≡ some rs
  unfolding old_records
  records_of_old =
      let all = (scanned rs 0 unit.good).1 in
      rw (reports_scan judge (old_file rs), ← (zero-add (length (old_file rs))), all, unit.form)

-- The packed bytes of nibbles are bytes.
narrow_bytes : (p : List ℕ) → All (λ b. b < 16) (nibbles p) → All (λ b. b < 256) p
unfolding nibbles
narrow_bytes [] a = tt
narrow_bytes (b ∷ p) a = let h = a.0 in let l = a.1.0 in (omega arith, narrow_bytes p a.1.1)

-- So are those of a dump that is accepted.
dump_bytes : (k : Dump) → Filed (of_dump k) → (n : ℕ) (p : List ℕ) → length p ≡ size_of k.packed → answer_of (judge (dump k.opcode n p)) ≡ 0
    → All (λ b. b < 256) p
unfolding dump
dump_bytes k f n p l z = narrow_bytes p (dump_passed k f n (nibbles p) (sum p) (omega (arith, length_nibbles p)) z).narrow

-- A record whose rows say nothing and whose dump is accepted is good.
good_again : (r : Record) → Silent (rows_for r) → answer_of (judge (dumped r)) ≡ 0 → Good r
unfolding kind_of
good_again r s z = record { passes = tested_passed (rows_for r) s; bytes = go r s z }
  where
    go : (r : Record) → Silent (rows_for r) → answer_of (judge (dumped r)) ≡ 0 → All (λ b. b < 256) (packed_for r)
    go (of_patch n p) s z = dump_bytes single_patch refl n p (row_equal 7 (length p) size s.0) z
    go (of_master m) s z = dump_bytes master_parameters refl 3 m (row_equal 7 (length m) master s.0) z

-- A record in a verdict of one of our kinds is of that kind, and its number and packed bytes are those of the verdict.
record OfKind (k : Kind) (b p : List ℕ) (r : Record) : Type 0 where
  kind : k ≡ kind_for r
  number : b ≡ number_for r
  packed : p ≡ packed_for r

-- Its opcode finds its kind.
of_kind : (k : Kind) (b p : List ℕ) (r : Record) → Filed k → Given k b p → record_in (record_for k b p) ≡ some r → OfKind k b p r
unfolding kind_of
of_kind k b p r f g e = go (eqb (opcode_of k) 1) (eqb (opcode_of k) 3) refl refl e
  where
    go : (t u : Bool) → eqb (opcode_of k) 1 ≡ t → eqb (opcode_of k) 3 ≡ u
        → cond t (some (of_patch (get_or b 0 0) p)) (cond u (some (of_master p)) none) ≡ some r → OfKind k b p r
    go true u q v e =
        let patch : k ≡ of_dump single_patch = sym f ∙ ap kind_of (eqb-true (opcode_of k) 1 q) in
        subst (OfKind k b p) (some-injective _ r e) (record { kind = patch; number = spelled b 1 (rw patch at g); packed = refl })
    go false true q v e =
        let master : k ≡ of_dump master_parameters = sym f ∙ ap kind_of (eqb-true (opcode_of k) 3 v) in
        subst (OfKind k b p) (some-injective _ r e) (record { kind = master; number = rw master at g; packed = refl })
    go false false q v e = let z : ◌≡◌ {A = ℕ} 0 1 = cc in absurd (omega arith)

-- Bytes that are accepted with a record in their verdict are its dump, and it is good.
again : (c : List ℕ) (v : Verdict) (r : Record) → v ≡ judge (framed c) → record_in v ≡ some r → (framed c ≡ dumped r) × Good r
again c (done o b p) r q e =
    let a = accepted o b p c (sym q) in
    let k = of_kind a.kind a.bytes a.packed r a.filed a.given (ap record_in (sym a.its_record) ∙ e) in
    let same : framed c ≡ dumped r = a.its_message ∙ rw (k.kind, k.number, k.packed) in
    let silent = rw (k.kind, k.number, k.packed) at a.passes in
    (same, good_again r silent (ap (λ (m : List ℕ). answer_of (judge m)) (sym same) ∙ ap answer_of (sym q)))
again c (refused o) r q e = let z : ◌≡◌ {A = ℕ} 0 1 = cc in absurd (omega arith)

-- A verdict with a record is answered 0.
with_record : (v : Verdict) (r : Record) → record_in v ≡ some r → answer_of v ≡ 0
with_record (done o b p) r e = refl
with_record (refused o) r e = let z : ◌≡◌ {A = ℕ} 0 1 = cc in absurd (omega arith)

-- Records that start with a report's: it starts at their place, and from its end the others go on.
pub record Next (p e : ℕ) (r : Report) (l : List Report) (rs : List Record) : Type 0 where
  pub here : r.start ≡ p
  pub one : Record
  pub more : List Record
  pub its : record_in r.verdict ≡ some one
  pub rest : records_from r.end e l ≡ some more
  pub all : one ∷ more ≡ rs

-- So it is with a report before others.
pub next : (p e : ℕ) (r : Report) (l : List Report) (rs : List Record) → records_from p e (r ∷ l) ≡ some rs → Next p e r l rs
unfolding records_from
next p e r l rs h = go (eqb r.start p) (record_in r.verdict) (records_from r.end e l) refl refl refl h
  where
    go : (t : Bool) (x : Option Record) (xs : Option (List Record)) → eqb r.start p ≡ t → record_in r.verdict ≡ x → records_from r.end e l ≡ xs
        → cond t (and_those x xs) none ≡ some rs → Next p e r l rs
    go true (some x) (some xs) q a b h = record {
      here = eqb-true r.start p q;
      one = x;
      more = xs;
      its = a;
      rest = b;
      all = some-injective (x ∷ xs) rs h;
    }
    go true (some x) none q a b h = let z : ◌≡◌ {A = ℕ} 0 1 = cc in absurd (omega arith)
    go true none xs q a b h = let z : ◌≡◌ {A = ℕ} 0 1 = cc in absurd (omega arith)
    go false x xs q a b h = let z : ◌≡◌ {A = ℕ} 0 1 = cc in absurd (omega arith)

-- At the end there are none.
pub at_end : (p e : ℕ) (rs : List Record) → records_from p e [] ≡ some rs → (p ≡ e) × (rs ≡ [])
unfolding records_from
at_end p e rs h = go (eqb p e) refl h
  where
    go : (t : Bool) → eqb p e ≡ t → cond t (some []) none ≡ some rs → (p ≡ e) × (rs ≡ [])
    go true q h = (eqb-true p e q, sym (some-injective [] rs h))
    go false q h = let z : ◌≡◌ {A = ℕ} 0 1 = cc in absurd (omega arith)

-- A file whose bytes from place p on are read as records is from there, less its real time, their old file, and they are good.
old_from : (n : ℕ) (s : List ℕ) (p : ℕ) (rs : List Record) → length s < n + p → p ≤ length s
    → records_from p (length s) (scan judge p outside (drop p s)) ≡ some rs → (without_real_time (drop p s) ≡ old_file rs) × All Good rs
unfolding walk each without_real_time
old_from zero s p rs far in-it e = absurd (omega arith)
old_from (suc n) s p rs far in-it e = by_walk (walked judge t p) (old_from n s)
  where
    t : List ℕ
    t = drop p s

    Later : Type 0
    Later = (p : ℕ) (rs : List Record) → length s < n + p → p ≤ length s → records_from p (length s) (scan judge p outside (drop p s)) ≡ some rs
        → (without_real_time (drop p s) ≡ old_file rs) × All Good rs

    by_next : (r : Report) → walk judge s p ≡ some r → (f : Found judge p t r)
        → Next p (length s) r (scan judge (p + f.taken) outside (drop f.taken t)) rs → Later → (without_real_time t ≡ old_file rs) × All Good rs
    by_next r found f x i =
        let c = complete judge s p r found (with_record r.verdict x.one x.its) in
        let a = again c.content r.verdict x.one c.judged x.its in
        let size : p + f.taken - p ≡ f.taken = omega arith in
        let its : between s r.start r.end ≡ take f.taken t = rw (x.here, f.ends, size) in
        let first : without_real_time (take f.taken t) ≡ dumped x.one = ap without_real_time (sym its) ∙ c.bytes ∙ a.0 in
        let inside : p + f.taken ≤ length s = omega (arith, f.within, length-drop p s) in
        let j = i (p + f.taken) x.more (omega (arith, f.some_bytes)) inside (rw (f.ends, drop-drop f.taken p s) at x.rest) in
        let both : without_real_time t ≡ dumped x.one ++ old_file x.more =
        ap without_real_time (sym (take-append-drop f.taken t)) ∙ without_append (take f.taken t) (drop f.taken t)
        ∙ rw (first, drop-drop f.taken p s, j.0) in
        rw (← x.all) (both, (a.1, j.1))

    by_walk : Walked judge p t → Later → (without_real_time t ≡ old_file rs) × All Good rs
    by_walk (nothing found report_none) i =
        let z = at_end p (length s) rs (rw report_none at e) in
        rw (z.1, drop_of_length-le s {i = p} (omega (arith, z.0))) (refl, tt)
    by_walk (message r found f) i = by_next r found f (next p (length s) r _ rs (rw f.rest at e)) i

-- A file that is read as a unit's records is less its real time their old file, and they are good.
pub old_read : (s : List ℕ) (rs : List Record) → old_records s ≡ some rs → (without_real_time s ≡ old_file rs) × IsUnit rs
unfolding old_records
old_read s rs e = go (records_from 0 (length s) (reports judge s)) refl e
  where
    by_form : (qs : List Record) → records_from 0 (length s) (reports judge s) ≡ some qs → (t : Bool) → of_unit qs ≡ t → cond t (some qs) none ≡ some rs
        → (without_real_time s ≡ old_file rs) × IsUnit rs
    by_form qs q true u h =
        let same = some-injective qs rs h in
        let f = old_from (suc (length s)) s 0 qs (omega arith) (omega arith) (rw (reports_scan judge s) at q) in
        rw (← same) (f.0, record { form = u; good = f.1 })
    by_form qs q false u h = let z : ◌≡◌ {A = ℕ} 0 1 = cc in absurd (omega arith)

    go : (o : Option (List Record)) → records_from 0 (length s) (reports judge s) ≡ o → if_unit o ≡ some rs
        → (without_real_time s ≡ old_file rs) × IsUnit rs
    go none q h = let z : ◌≡◌ {A = ℕ} 0 1 = cc in absurd (omega arith)
    go (some qs) q h = by_form qs q (of_unit qs) refl h

-- A number that is kept is not 0.
pub kept_not_zero : (l : List Report) (k : Placed) → first_kept l ≡ some k → k.outcome.answer ≡ 0 → ⊥
unfolding first_kept
kept_not_zero [] k e z = let z : ◌≡◌ {A = ℕ} 0 1 = cc in omega arith
kept_not_zero (r ∷ l) k e z = go (keeps (answer_of r.verdict)) refl e (kept_not_zero l k)
  where
    go : (t : Bool) → keeps (answer_of r.verdict) ≡ t → cond t (some (placed (outcome_of r.verdict) r.start)) (first_kept l) ≡ some k
        → (first_kept l ≡ some k → k.outcome.answer ≡ 0 → ⊥) → ⊥
    go true q e i =
        let same = some-injective (placed (outcome_of r.verdict) r.start) k e in
        let never : false ≡ true = rw (ap (λ (x : Placed). x.outcome.answer) same ∙ z) at q in
        let z : ◌≡◌ {A = ℕ} 0 1 = cc in
        omega arith
    go false q e i = i e z
