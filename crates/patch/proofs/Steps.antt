-- The search for a bus half used, a turn at a time: each is a step of its definition's recursion.
use Rattle.std.proofs.Common.{◌≡◌, ℕ, suc, ◌+◌, ◌-◌, ◌*◌, ◌<◌, ◌≤◌, true, false, List, get_or, ◌∙◌, add-one, arith}
use mathlib.Core.Option.{none, some}
use Rattle.patch.specs.Patch.{half_from, half_used}

one_more : (n k : ℕ) → k < n → n - k ≡ suc (n - (k + 1))
one_more n k h = let e : n - k ≡ (n - (k + 1)) + 1 = omega arith in e ∙ add-one _

none_left : (n k : ℕ) → n ≤ k → n - k ≡ 0
none_left n k h = omega arith

pub bus_whole : (p : List ℕ) (b : ℕ) → b < 10 → half_used (get_or p (104 + 3 * b) 0) (get_or p (106 + 3 * b) 0) ≡ false
    → half_from (10 - b) b p ≡ half_from (10 - (b + 1)) (b + 1) p
unfolding half_from
bus_whole p b h e = rw (one_more 10 b h) (simp (e, add-one))

pub bus_half : (p : List ℕ) (b : ℕ) → b < 10 → half_used (get_or p (104 + 3 * b) 0) (get_or p (106 + 3 * b) 0) ≡ true
    → half_from (10 - b) b p ≡ some b
unfolding half_from
bus_half p b h e = rw (one_more 10 b h) (simp e)

pub buses_done : (p : List ℕ) (b : ℕ) → 10 ≤ b → half_from (10 - b) b p ≡ none
unfolding half_from
buses_done p b h = rw (none_left 10 b h)
