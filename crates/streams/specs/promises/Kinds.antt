-- The kinds of byte in numbers: F8H..FFH are real time, 80H..F7H end a message.
use Rattle.std.specs.Prelude.{◌≡◌, true, ◌↔◌, ℕ, ◌≤◌, ◌<◌}
use Rattle.streams.specs.Bytes.{byte_kind, ends, is_real_time}

pub record KindOf (b : ℕ) : Type 0 where
  pub real_time : (is_real_time (byte_kind b) ≡ true) ↔ (0xF8 ≤ b)
  pub ending : (ends (byte_kind b) ≡ true) ↔ ((0x80 ≤ b) × (b < 0xF8))
