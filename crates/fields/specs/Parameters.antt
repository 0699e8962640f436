-- What a caller who wants to set a field is told of its parameter.
use Rattle.std.proofs.Math.Option.{Option, none, some}
use Rattle.std.specs.Prelude.{ℕ, ℤ, pos}
use Rattle.answers.specs.declared.Outcome.{Outcome}
use Rattle.answers.specs.Table.{Row, row, outcome}
use Rattle.fields.specs.Fields.{least_at, greatest_at, value_at, place_of, missing}
use Rattle.fields.specs.declared.Range.{Range}

-- The test of a parameter: 8 for a number that is no parameter's.
abbrev pub parameter_row : ℕ → Row
parameter_row n = row 8 (missing (place_of n))

abbrev pub range : Outcome → ℤ → ℤ → Range
range o least greatest = record { outcome = o; least = least; greatest = greatest }

-- The least and the greatest value of the field at a place, as the field test has them.
abbrev pub range_for : Option ℕ → Range
range_for none = range (outcome 8 0) (pos 0) (pos 0)
range_for (some k) = range (outcome 0 0) (value_at k (least_at k)) (value_at k (greatest_at k))

-- Those of a parameter.
unfoldable pub ranging : ℕ → Range
ranging n = range_for (place_of n)
