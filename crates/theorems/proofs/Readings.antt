-- Reading a record from the start of a report gives that report's places, answer, noise and bytes, since the walk from there finds that report.
-- So readings are the same where reports are, and the places of both are counted back alike.
use mathlib.Core.Path.{◌≡◌, refl}
use mathlib.Core.Bool.{Bool, true, false, cond}
use mathlib.Core.List.{List, [], ◌∷◌, ◌++◌, map}
use mathlib.Core.Option.{some}
use Prim.Native.Nat.{ℕ, ◌+◌, ◌-◌}
use native.Mathlib.Nat.{add-zero}
use native.Mathlib.Omega.{arith}
use lib.Dec.{leb}
use lib.ListN.{length, drop}
use Rattle.answers.specs.Lists.{All}
use Rattle.answers.specs.Table.{Verdict, done, refused, outcome, answer_of}
use Rattle.answers.specs.Effect.{Effect}
use Rattle.streams.specs.Stream.{Report, Reading, reading, read_into, walk, read, reports}
use Rattle.streams.specs.code.Scan.{outside, scan}
use Rattle.streams.proofs.Scan.{move, scan_moved}
use Rattle.streams.proofs.Walk.{reread}
use Rattle.messages.specs.Judge.{judge}
use Rattle.theorems.specs.Damage.{keep, counted_back, reading_back, readings, Spoilt}
use Rattle.theorems.proofs.Parts.{all_keep}

-- What reading gives where the walk finds the report r.
abbrev pub reading_of : List ℕ → Report → Effect Reading
reading_of lent r = read_into r.start r.end r.verdict r.noise lent

read_back_alike : (n f e : ℕ) (v : Verdict) (noise : ℕ) (lent : List ℕ) → reading_back n (read_into f e v noise lent) ≡ read_into (n - f) (n - e) v noise lent
read_back_alike n f e (done o b p) noise lent = by_test (leb (length p) (length lent))
  where
    by_test : (t : Bool) → reading_back n (cond t
        (record { result = reading f e (outcome 0 o) noise b; lent = p ++ drop (length p) lent })
        (record { result = reading f e (outcome 13 0) noise []; lent = lent }))
        ≡ cond t
        (record { result = reading (n - f) (n - e) (outcome 0 o) noise b; lent = p ++ drop (length p) lent })
        (record { result = reading (n - f) (n - e) (outcome 13 0) noise []; lent = lent })
    by_test true = refl
    by_test false = refl
read_back_alike n f e (refused r) noise lent = refl

-- Readings counted back are the readings of reports counted back.
pub readings_back : (n : ℕ) (lent : List ℕ) (l : List Report) → map (reading_back n) (map (reading_of lent) l) ≡ map (reading_of lent) (map (counted_back n) l)
readings_back n lent [] = refl
readings_back n lent (r ∷ l) = rw (read_back_alike n r.start r.end r.verdict r.noise lent, readings_back n lent l)

-- Neither 0 nor 13.
abbrev pub Refused : Verdict → Type 0
Refused v = (answer_of v ≡ 0 → ⊥) × (answer_of v ≡ 13 → ⊥)

reading_refused : (lent : List ℕ) (f e : ℕ) (v : Verdict) (n : ℕ) → Refused v → Spoilt lent (read_into f e v n lent)
reading_refused lent f e (done o b p) n h = absurd (h.0 refl)
reading_refused lent f e (refused r) n h = (h.0, h.1, refl)

-- Reading a refused message gives its answer and leaves the buffer.
pub readings_refused : (lent : List ℕ) (l : List Report) → All (λ r. Refused r.verdict) l
    → All (λ r. Spoilt lent r) (map (reading_of lent) l)
readings_refused lent [] a = tt
readings_refused lent (r ∷ l) a = (reading_refused lent r.start r.end r.verdict r.noise a.0, readings_refused lent l a.1)

reread_all : (s lent : List ℕ) (l : List Report) → All (λ r. walk judge s r.start ≡ some r) l → readings s lent l ≡ map (reading_of lent) l
unfolding read
reread_all s lent [] a = refl
reread_all s lent (r ∷ l) a = rw (a.0, reread_all s lent l a.1)

-- Reading from the start of each of some reports of a stream.
pub readings_kept : (s lent : List ℕ) (t : Report → Bool) → readings s lent (keep t (reports judge s)) ≡ map (reading_of lent) (keep t (reports judge s))
readings_kept s lent t = reread_all s lent (keep t (reports judge s)) (all_keep (λ r. walk judge s r.start ≡ some r) t (reports judge s) (reread judge s))

back_moved : (n k m : ℕ) (l : List Report) → n ≡ k + m → map (counted_back n) (map (move k) l) ≡ map (counted_back m) l
back_moved n k m [] e = refl
back_moved n k m (r ∷ l) e = rw (back_moved n k m l e, less r.start, less r.end)
  where
    less : (x : ℕ) → n - (k + x) ≡ m - x
    less x = omega arith

-- The reports of the last bytes z of n, counted back from n, do not depend on what stands before z.
pub scan_back : (n k : ℕ) (z : List ℕ) → n ≡ k + length z
    → map (counted_back n) (scan judge k outside z) ≡ map (counted_back (length z)) (scan judge 0 outside z)
scan_back n k z e = rw (scan_moved judge z k 0 outside, add-zero k) at (back_moved n k (length z) (scan judge 0 outside z) e)
