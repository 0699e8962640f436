-- The tests of a patch: the field ranges and the bus rule; and the value of a parameter in one.
use Rattle.std.specs.Prelude.{ℕ, zero, suc, ◌+◌, ◌*◌, Bool, cond, not, List, [], ◌∷◌, length, ℤ, pos, ◌==◌, slice_index}
use Rattle.std.specs.Bool.{beq}
use Rattle.std.proofs.Math.Option.{Option, none, some}
use Rattle.answers.specs.declared.Outcome.{Outcome}
use Rattle.answers.specs.Table.{Row, row, row_at, row_found, Found, Verdict, done, refused, first, outcome}
use Rattle.ranges.specs.Ranges.{out_from}
use Rattle.fields.specs.Fields.{size, fields, value_at, place_of}
use Rattle.fields.specs.Parameters.{parameter_row}
use Rattle.patch.specs.declared.Held.{Held}

-- The lowest place out of range, and the value found there.
abbrev pub first_out : List ℕ → Option Found
first_out p = out_from fields 0 p

-- Where bus b has its source, its amount and its destination.
abbrev pub source_at : ℕ → ℕ
source_at b = 104 + 3 * b

abbrev pub amount_at : ℕ → ℕ
amount_at b = 105 + 3 * b

abbrev pub destination_at : ℕ → ℕ
destination_at b = 106 + 3 * b

-- A bus has source and destination both zero or both not: half used otherwise.
unfoldable pub half_used : ℕ → ℕ → Bool
half_used source destination = not (beq (source == 0) (destination == 0))

-- The lowest half used of the n buses from bus b on.
unfoldable pub half_from : ℕ → ℕ → List ℕ → Option ℕ
half_from zero b p = none
half_from (suc n) b p =
    cond (half_used (slice_index p (source_at b)) (slice_index p (destination_at b))) (some b) (half_from n (suc b) p)

abbrev pub buses : ℕ
buses = 10

abbrev pub first_half : List ℕ → Option ℕ
first_half p = half_from buses 0 p

-- The two tests that a patch of 134 bytes has to pass: 11, then 12.
abbrev pub field_rows : List ℕ → List Row
field_rows p = row_found 11 (first_out p) ∷ row_at 12 (first_half p) ∷ []

-- The test of a lent patch's length.
abbrev pub length_row : List ℕ → Row
length_row p = row 7 (not (length p == size))

-- The test of a lent patch: 7, then 11, then 12.
abbrev pub patch_rows : List ℕ → List Row
patch_rows p = length_row p ∷ field_rows p

-- What a parameter has in a patch: an outcome and a value, 0 when refused.
abbrev pub held : Outcome → ℤ → Held
held o v = record { outcome = o; value = v }

abbrev pub not_held : Outcome → Held
not_held o = held o (pos 0)

-- The tests of asking for it: 8, then the patch's own.
abbrev pub held_rows : ℕ → List ℕ → List Row
held_rows n p = parameter_row n ∷ patch_rows p

-- The value of the byte at a place of a patch.
abbrev pub value_held : Option ℕ → List ℕ → ℤ
value_held none p = pos 0
value_held (some k) p = value_at k (slice_index p k)

abbrev pub held_by : ℤ → Verdict → Held
held_by v (done o b p) = held (outcome 0 0) v
held_by v (refused o) = not_held o

-- The value of a parameter in a lent patch.
unfoldable pub holding : ℕ → List ℕ → Held
holding n p = held_by (value_held (place_of n) p) (first (held_rows n p) (done 0 [] []))
