-- The 18 bytes of a split (02 (x)): place, parameter, least and greatest value of each, by source document 003's Appendix D.
use Rattle.std.specs.Prelude.{List, [], ◌∷◌, ℕ}
use Rattle.std.proofs.Math.Option.{some}
use Rattle.answers.specs.Table.{Row}
use Rattle.ranges.specs.Ranges.{Table, field, counted_rows}

-- How many bytes a split has.
abbrev pub split_size : ℕ
split_size = 18

-- Appendix D gives bits and no ranges: n bits are 0 to 2^n - 1, six bits with a sign -32..31. What it says of single values (a balance of -31 is the
-- left zone only) describes them and does not limit the others; so a balance of -32 passes, and a patch number of 100 to 127. Parameter 255 stands
-- where a place has none.
unfoldable pub split_fields : Table
split_fields =
    -- The name.
    field 0 255 0 63 ∷ field 1 255 0 63 ∷ field 2 255 0 63 ∷ field 3 255 0 63 ∷ field 4 255 0 63 ∷ field 5 255 0 63 ∷
    -- Not used.
    field 6 255 0 63 ∷ field 7 255 0 63 ∷
    -- The numbers of the lower and the upper patch.
    field 8 255 0 127 ∷ field 9 255 0 127 ∷
    -- The left zone: limit, transpose, MIDI out.
    field 10 0 0 127 ∷ field 11 1 0xE0 0x1F ∷ field 12 2 0 1 ∷
    -- The right zone.
    field 13 3 0 127 ∷ field 14 4 0xE0 0x1F ∷ field 15 5 0 1 ∷
    -- The balance, and the voice configuration.
    field 16 6 0xE0 0x1F ∷ field 17 7 0 3 ∷ []

-- The test of a lent split: 7, then 11.
abbrev pub split_rows : List ℕ → List Row
split_rows p = counted_rows split_size (some split_fields) p
