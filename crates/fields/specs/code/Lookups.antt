-- What the lookups answer, as the code's types.
use Rattle.std.specs.Prelude.{ℕ, take, drop, Option as Maybe, Some, None, Result, Ok, Err, pos}
use Rattle.std.proofs.Math.Option.{Option, none, some}
use Rattle.answers.specs.declared.Refusal.{Refusal}
use Rattle.answers.specs.Table.{outcome}
use Rattle.answers.specs.Refusals.{outcome_by}
use Rattle.ranges.specs.Ranges.{Table}
use Rattle.fields.specs.Fields.{fields, place_at, parameter_at, least_at, greatest_at}
use Rattle.fields.specs.declared.Field.{Field}
use Rattle.fields.specs.Parameters.{range}
use Rattle.fields.specs.declared.BytePlace.{BytePlace}
use Rattle.fields.specs.declared.Bounds.{Bounds}
use Rattle.fields.specs.declared.Parameter.{Parameter}
use Rattle.fields.specs.declared.Range.{Range}

-- The row of a place.
abbrev pub row_at : ℕ → Field
row_at k = record { 0 = place_at k; 1 = parameter_at k; 2 = least_at k; 3 = greatest_at k }

abbrev pub found_place : Option ℕ → Maybe BytePlace
found_place (some k) = Some (record { 0 = k })
found_place none = None

abbrev pub found_parameter : Option ℕ → Maybe Parameter
found_parameter (some n) = Some (record { 0 = n })
found_parameter none = None

-- The bounds of a parameter as they are told, both 0 when refused.
abbrev pub told_range : Result Bounds Refusal → Range
told_range (Ok b) = range (outcome 0 0) b.least b.greatest
told_range (Err r) = range (outcome_by r) (pos 0) (pos 0)

-- The rows of bus 0.
abbrev pub bus_table : Table
bus_table = take 3 (drop 104 fields)

-- A place or a parameter as a byte, 255 where there is none.
abbrev pub or_none : Option ℕ → ℕ
or_none none = 255
or_none (some n) = n
