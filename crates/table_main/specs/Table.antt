-- The text of the field table: a line for each byte of a patch with its place, parameter, least and greatest value.
use Rattle.std.specs.Prelude.{List, [], ◌++◌, ℕ, zero, suc, ◌≤◌, length}
use Rattle.std.proofs.Math.Option.{Option, none, some}
use Rattle.text.specs.Text.{ascii, followed, signed}
use Rattle.fields.specs.Fields.{size, least_at, greatest_at, value_at, parameter_of}

-- A parameter, or a dash where there is none, and a space behind it.
abbrev pub parameter_text : Option ℕ → List ℕ
parameter_text (some n) = followed n 0x20
parameter_text none = ascii "- "

unfoldable pub table_row : ℕ → List ℕ
table_row k =
    followed k 0x20
    ++ (parameter_text (parameter_of k)
    ++ (signed (value_at k (least_at k)) 0x20
    ++ signed (value_at k (greatest_at k)) 0x0A))

-- The lines of n places from place k on.
unfoldable pub table_rows : ℕ → ℕ → List ℕ
table_rows zero k = []
table_rows (suc n) k = table_row k ++ table_rows n (suc k)

-- Bytes of a patch.
abbrev pub places : ℕ
places = size

unfoldable pub table_text : List ℕ
table_text = table_rows places 0

-- It has room in the program's buffer.
abbrev pub TableFits : Type 0
TableFits = length table_text ≤ 4096
