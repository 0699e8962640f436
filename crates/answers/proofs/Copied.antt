-- A loop that fills a lent buffer from its start, a piece in each turn: each piece goes behind those written so far, and the bytes behind it
-- stay as they were.
use mathlib.Core.Path.{◌≡◌, refl, ◌∙◌}
use mathlib.Core.List.{List, [], ◌∷◌, ◌++◌}
use Prim.Native.Nat.{ℕ, ◌+◌, ◌<◌, ◌≤◌}
use native.Mathlib.Omega.{arith}
use lib.ListN.{length, drop, set, length-append, length-set}
use Rattle.answers.proofs.Lists.{puts, puts_after}

-- After i of n turns D i stands at the start of o, and behind it what stood in o₀.
abbrev pub Copied : (ℕ → List ℕ) → ℕ → List ℕ → List ℕ → ℕ → Type 0
Copied D n o₀ o i = (i ≤ n) × (length o ≡ length o₀) × (o ≡ D i ++ drop (length (D i)) o₀)

length_puts : (at : ℕ) (bs o : List ℕ) → length (puts at bs o) ≡ length o
length_puts at [] o = refl
length_puts at (b ∷ bs) o = length_puts (at + 1) bs (set o at b) ∙ length-set o at b

-- One turn more writes the bytes bs.
pub copied_next : (D : ℕ → List ℕ) (n : ℕ) (o₀ o : List ℕ) (i : ℕ) → Copied D n o₀ o i → i < n
    → (at : ℕ) (bs : List ℕ) → length (D i) ≡ at → D (i + 1) ≡ D i ++ bs → at + length bs ≤ length o₀ → Copied D n o₀ (puts at bs o) (i + 1)
copied_next D n o₀ o i c h at bs l more room =
    let all : length (D i ++ bs) ≡ at + length bs = omega (arith, length-append (D i) bs) in
    (omega arith, length_puts at bs o ∙ c.1, puts_after (D i) bs o₀ o at l room (rw l at c.2) ∙ rw (more, all))
