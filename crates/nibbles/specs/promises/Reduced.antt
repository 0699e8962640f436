-- The sum in one byte: reduced at each step it is the sum reduced at the end, for packed bytes of every kind and number.
use Rattle.std.specs.Prelude.{◌≡◌, ℕ, ◌+◌, ◌%◌, ◌<◌, List, [], ◌∷◌}
use Rattle.nibbles.specs.Nibbles.{total, sum}

-- A sum so far, and the bytes that are added to it one by one, reduced modulo m at each step.
unfoldable pub reducing : ℕ → ℕ → List ℕ → ℕ
reducing m s [] = s
reducing m s (b ∷ bs) = reducing m ((s + b) % m) bs

pub record Reduced : Type 0 where
  pub at_the_end : (m s : ℕ) (bytes : List ℕ) → reducing m (s % m) bytes ≡ (s + total bytes) % m
  pub by_128 : (bytes : List ℕ) → reducing 128 0 bytes ≡ sum bytes
  -- A byte wraps at 256: each sum on the way, so reduced, is a byte, and the last, reduced once more by 128, is the sum.
  pub in_a_byte : (s : ℕ) (bytes : List ℕ) → s < 256 → reducing 256 s bytes < 256
  pub by_256 : (bytes : List ℕ) → reducing 256 0 bytes % 128 ≡ sum bytes
