-- The table of a split as a whole: what source document 003 lists, in values, and what holds of all our tables.
use Rattle.std.specs.Prelude.{◌≡◌, Bool, ◌||◌, ℕ, ◌+◌, ◌-◌, ◌*◌, ◌≤◌, ◌<◌, eqb, length}
use Rattle.ranges.specs.Ranges.{parameter_in}
use Rattle.ranges.specs.Values.{plus, minus}
use Rattle.ranges.specs.promises.Tables.{TableRule, Signs, Apart, Goes, TestedBy}
use Rattle.splits.specs.Splits.{split_size, split_fields}

-- Both transposes and the balance have a sign.
abbrev pub has_sign : ℕ → Bool
has_sign k = eqb k 11 || (eqb k 14 || eqb k 16)

-- The rule of the table.
pub record Rule : Type 0 where
  -- 18 rows, and the rule of tables: each place stands once, no least value is above the greatest.
  pub rows : length split_fields ≡ split_size
  pub of_tables : TableRule split_fields
  -- Six bits each: the name, and two bytes that are not used. Seven: the numbers of the lower and the upper patch.
  pub name : (k : ℕ) → k < 6 → Goes split_fields k (plus 0) (plus 63)
  pub not_used : (k : ℕ) → 6 ≤ k → k < 8 → Goes split_fields k (plus 0) (plus 63)
  pub patch_number : (k : ℕ) → 8 ≤ k → k < 10 → Goes split_fields k (plus 0) (plus 127)
  -- The left zone, 0, and the right one, 1: the limit has seven bits, the transpose six with a sign, MIDI out one.
  pub limit : (zone : ℕ) → zone < 2 → Goes split_fields (10 + 3 * zone) (plus 0) (plus 127)
  pub transpose : (zone : ℕ) → zone < 2 → Goes split_fields (11 + 3 * zone) (minus 32) (plus 31)
  pub midi_out : (zone : ℕ) → zone < 2 → Goes split_fields (12 + 3 * zone) (plus 0) (plus 1)
  -- The balance has six bits with a sign, the voice configuration two.
  pub balance : Goes split_fields 16 (minus 32) (plus 31)
  pub voices : Goes split_fields 17 (plus 0) (plus 3)
  -- Bytes 10 to 17 are parameters 0 to 7, the others none.
  pub numbered : (k : ℕ) → 10 ≤ k → k < split_size → parameter_in split_fields k ≡ k - 10
  pub unnumbered : (k : ℕ) → k < 10 → parameter_in split_fields k ≡ 255
  -- The value of every byte, with its sign where the field has one (02 (vi)).
  pub signs : Signs split_fields has_sign
  -- No range has both a byte and the one 128 higher: what the nibble statement needs.
  pub apart : Apart split_fields
  -- What the test of a lent split answers, exactly: 7, done, 11.
  pub tests : TestedBy split_size split_fields
