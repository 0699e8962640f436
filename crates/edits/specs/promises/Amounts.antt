-- Request (ix): a seven-bit amount extended from bit 6 always lies in -64..63.
use Rattle.std.specs.Prelude.{◌≡◌, true, ℕ, ◌≤◌}
use Rattle.ranges.specs.Values.{plus, minus, value_of, from_to}
use Rattle.fields.specs.Fields.{in_range}
use Rattle.patch.specs.Patch.{amount_at}
use Rattle.edits.specs.Edits.{extended}

pub record AmountsInside : Type 0 where
  pub value : (amount : ℕ) → amount ≤ 127 → from_to (minus 64) (plus 63) (value_of (extended amount)) ≡ true
  -- which is the range of an amount on every bus
  pub range : (bus amount : ℕ) → bus ≤ 9 → amount ≤ 127 → in_range (amount_at bus) (extended amount) ≡ true
