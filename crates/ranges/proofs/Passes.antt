-- Passes over bytes, byte by byte: what a flag that stays clear has shown so far, and what it has shown at the end.
use Rattle.std.proofs.Common.{◌≡◌, ℕ, ◌+◌, ◌-◌, ◌<◌, ◌≤◌, Bool, true, false, ltb, List, length, get_or, refl, arith, below_more, ltb-false, ltb-true}
use mathlib.Core.Option.{Option, none, some}
use Rattle.answers.specs.Table.{Found, found}
use Rattle.ranges.specs.Ranges.{Table, in_row, out_from}
use Rattle.ranges.specs.code.Passes.{InRows, nothing}
use Rattle.ranges.proofs.Runs.{lowest_out}

module _ (t : Table) (p : List ℕ) where
  -- One byte more.
  pub rows_more : (i k : ℕ) → InRows t i k p → in_row t k (get_or p k 0) ≡ true → InRows t i (k + 1) p
  rows_more i k h e j l u = below_more (λ (n : ℕ). i ≤ n → in_row t n (get_or p n 0) ≡ true) k (λ n v m. h n m v) (λ m. e) j u l

  -- Two passes, the second from no later than where the first ends.
  pub rows_join : (i n m l : ℕ) → m ≤ n → InRows t i n p → InRows t m l p → InRows t i l p
  rows_join i n m l s h g k a b = go (ltb k n) refl
    where
      go : (u : Bool) → ltb k n ≡ u → in_row t k (get_or p k 0) ≡ true
      go true q = h k a (ltb-true k n q)
      go false q = let after = ltb-false k n q in g k (omega arith) b

  -- Where every byte lies in its range, none is out of range.
  pub rows_in : InRows t 0 (length p) p → out_from t 0 p ≡ none
  rows_in h = go (out_from t 0 p) refl
    where
      go : (o : Option Found) → out_from t 0 p ≡ o → o ≡ none
      go none e = refl
      go (some (found j v)) e =
          let l = (lowest_out t 0 p).some_out j v e in
          let here : j - 0 ≡ j = omega arith in
          let out = rw here at l.out in
          let in_range = h j l.from (omega (arith, l.below)) in
          let z : ◌≡◌ {A = ℕ} 0 1 = cc in
          absurd (omega arith)

  -- What the flag of a pass over the first k bytes tells: true, each is in its range; else one is not.
  pub data Seen (all : Bool) (k : ℕ) : Type 0 where
    whole : all ≡ true → InRows t 0 k p → Seen all k
    broken : all ≡ false → (j : ℕ) → j < k → in_row t j (get_or p j 0) ≡ false → Seen all k

  pub seen_in : (all : Bool) (k : ℕ) → Seen all k → in_row t k (get_or p k 0) ≡ true → Seen all (k + 1)
  seen_in all k (whole z h) e = whole z (rows_more 0 k h e)
  seen_in all k (broken z j l out) e = broken z j (omega arith) out

  -- At the end it tells whether the search would find nothing.
  pub seen_all : (all : Bool) → Seen all (length p) → all ≡ nothing (out_from t 0 p)
  seen_all all (whole z h) = rw (z, rows_in h)
  seen_all all (broken z j l out) = rw z (go (out_from t 0 p) refl)
    where
      go : (o : Option Found) → out_from t 0 p ≡ o → false ≡ nothing o
      go (some f) e = refl
      go none e =
          let here : j - 0 ≡ j = omega arith in
          let in_range = rw here at ((lowest_out t 0 p).none_out e j (omega arith) (omega arith)) in
          let y : ◌≡◌ {A = ℕ} 0 1 = cc in
          absurd (omega arith)
