-- A patch is accepted where each byte is in range and each bus whole, bus by bus.
use Rattle.std.proofs.Common.{◌≡◌, ℕ, zero, suc, ◌+◌, ◌*◌, ◌<◌, ◌≤◌, Bool, true, false, cond, eqb, List, length, get_or, refl, arith, eqb-true}
use mathlib.Core.Option.{none, some}
use borrow.Author.Tests.{eqb-false}
use Rattle.answers.specs.Table.{outcome}
use Rattle.answers.specs.Effect.{tested}
use Rattle.answers.proofs.Rows.{tested_passed}
use Rattle.patch.specs.Patch.{first_out, half_used, half_from, patch_rows}
use Rattle.patch.proofs.Tests.{patch_silent}

-- Source and destination of bus c are both zero or both not.
abbrev pub Whole : List ℕ → ℕ → Type 0
Whole p c = half_used (get_or p (104 + 3 * c) 0) (get_or p (106 + 3 * c) 0) ≡ false

-- Where none of the n buses from b on is half used, each of them is whole.
pub each_whole : (n b : ℕ) (p : List ℕ) → half_from n b p ≡ none → (c : ℕ) → b ≤ c → c < b + n → Whole p c
unfolding half_from
each_whole zero b p e c l h = absurd (omega arith)
each_whole (suc n) b p e c l h =
    go (half_used (get_or p (104 + 3 * b) 0) (get_or p (106 + 3 * b) 0)) (eqb c b) refl refl e (λ f k. each_whole n (suc b) p f c k (omega arith))
  where
    go : (t u : Bool) → half_used (get_or p (104 + 3 * b) 0) (get_or p (106 + 3 * b) 0) ≡ t → eqb c b ≡ u
        → cond t (some b) (half_from n (suc b) p) ≡ none → (half_from n (suc b) p ≡ none → suc b ≤ c → Whole p c) → Whole p c
    go true u q r e later = let z : ◌≡◌ {A = ℕ} 0 1 = cc in absurd (omega arith)
    go false true q r e later = let same = eqb-true c b r in rw same q
    go false false q r e later = let other = eqb-false c b r in later e (omega arith)

-- Where each of them is whole, none is half used.
pub none_half : (n b : ℕ) (p : List ℕ) → ((c : ℕ) → b ≤ c → c < b + n → Whole p c) → half_from n b p ≡ none
unfolding half_from
none_half zero b p h = refl
none_half (suc n) b p h = simp (h b (omega arith) (omega arith)) (none_half n (suc b) p (λ c l k. h c (omega arith) (omega arith)))

-- 134 bytes, each in range, whose buses are whole, pass the tests of a patch.
pub patch_accepted : (q : List ℕ) → length q ≡ 134 → first_out q ≡ none → ((c : ℕ) → c < 10 → Whole q c) → tested (patch_rows q) ≡ outcome 0 0
patch_accepted q l e h =
    let f = none_half 10 0 q (λ c z k. h c (omega arith)) in
    tested_passed (patch_rows q) (patch_silent q l e f)
