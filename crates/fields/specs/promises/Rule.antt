-- What document 01 says of its listing as a whole.
use Rattle.std.specs.Prelude.{◌≡◌, ℕ, ◌+◌, ◌*◌, ◌%◌, ◌<◌, ◌≤◌, Bool, true, false, ◌&&◌, ◌||◌, length, ℤ, ◌==◌, nat_le, nat_lt}
use Rattle.std.proofs.Math.Option.{none, some}
use Rattle.ranges.specs.Values.{plus, minus, from_to}
use Rattle.ranges.specs.promises.Tables.{TableRule, Signs, Apart, Goes}
use Rattle.fields.specs.Fields.{size, fields, in_range, value_at, place_of, parameter_of}
use Rattle.fields.specs.Parameters.{ranging}

-- A value that a byte in the range of place k has.
abbrev pub Reached : ℕ → ℤ → Type 0
Reached k v = (b : ℕ) × ((in_range k b ≡ true) × (value_at k b ≡ v))

-- The numbers that have no byte.
abbrev pub unused : ℕ → Bool
unused n = (n == 39 || n == 49) || (n == 89 || n == 99)

-- Byte 19, bytes 86-103 and the amounts of the buses, 105 + 3b, have a sign.
abbrev pub has_sign : ℕ → Bool
has_sign k = k == 19 || ((nat_le 86 k && nat_lt k 104) || (nat_le 104 k && k % 3 == 0))

-- The rule of the table.
pub record Rule : Type 0 where
  -- 134 rows, and the rule of tables: places, bounds, signs.
  pub rows : length fields ≡ size
  pub of_tables : TableRule fields
  -- Parameters and bytes 8-103 match one to one: each of these bytes has a parameter, each parameter but the unused ones has a byte, and
  -- each leads back to the other.
  pub numbered : (k : ℕ) → 8 ≤ k → k < 104 → (n : ℕ) × ((n < 100) × (parameter_of k ≡ some n))
  pub placed : (n : ℕ) → n < 100 → unused n ≡ false → (k : ℕ) × ((8 ≤ k) × ((k < 104) × (place_of n ≡ some k)))
  pub there : (n k : ℕ) → place_of n ≡ some k → parameter_of k ≡ some n
  pub back : (k n : ℕ) → parameter_of k ≡ some n → place_of n ≡ some k
  -- 39, 49, 89, 99 have no byte, nor has a number above 99.
  pub nowhere : (n : ℕ) → unused n ≡ true → place_of n ≡ none
  pub above : (n : ℕ) → 99 < n → place_of n ≡ none
  -- The name, the buses and what lies past them have no parameter.
  pub name_unnumbered : (k : ℕ) → k < 8 → parameter_of k ≡ none
  pub bus_unnumbered : (k : ℕ) → 104 ≤ k → parameter_of k ≡ none
  -- A signed amount is -64..63; byte 19, detune, is -32..31; the name's bytes are 0..63.
  pub amount : (k : ℕ) → 86 ≤ k → k < 104 → Goes fields k (minus 64) (plus 63)
  pub detune : Goes fields 19 (minus 32) (plus 31)
  pub name : (k : ℕ) → k < 8 → Goes fields k (plus 0) (plus 63)
  -- Bus b has its source at 104 + 3b, its amount at 105 + 3b, its destination at 106 + 3b.
  pub bus_source : (b : ℕ) → b < 10 → Goes fields (104 + 3 * b) (plus 0) (plus 20)
  pub bus_amount : (b : ℕ) → b < 10 → Goes fields (105 + 3 * b) (minus 64) (plus 63)
  pub bus_destination : (b : ℕ) → b < 10 → Goes fields (106 + 3 * b) (plus 0) (plus 32)
  -- The value of every byte, with its sign where the field has one (02 (vi)).
  pub signs : Signs fields has_sign
  -- What is told of a parameter's range: its values are those between the two, and both are among them.
  pub ranged : (n k b : ℕ) → place_of n ≡ some k → b < 256 → let r = ranging n in in_range k b ≡ from_to r.least r.greatest (value_at k b)
  pub reached : (n k : ℕ) → place_of n ≡ some k → let r = ranging n in Reached k r.least × Reached k r.greatest
  -- No range has both a byte and the one 128 higher: what demand 3 needs.
  pub apart : Apart fields
