-- Bytes passed over in blocks: what is known of them, and what is left to count.
use Rattle.std.specs.Prelude.{◌≡◌, ℕ, ◌+◌, ◌≤◌, List, length, drop}
use Rattle.streams.specs.Bytes.{body, real_time_in}

-- A byte over which a message goes on: none in 80H..F7H.
abbrev pub Goes : ℕ → Type 0
Goes b = (0x80 ≤ b) × (b ≤ 0xF7) → ⊥

-- The message goes on over the first r bytes, of which n are real time: what is left of the body starts there.
pub record Onward (s : List ℕ) (r n : ℕ) : Type 0 where
  pub within : r ≤ length s
  pub fewer : n ≤ r
  pub counted : length (body s) ≡ r + length (body (drop r s))
  pub heard : real_time_in (body s) ≡ n + real_time_in (body (drop r s))
