-- Document 01's table for a complete message without its real-time bytes, less 14, which is withdrawn: what it comes to.
use Rattle.std.specs.Prelude.{Bool, not, List, [], ◌∷◌, ◌++◌, ℕ, ◌+◌, ◌*◌, eqb, ltb, length, take, drop, get_or}
pub use Rattle.answers.specs.Lists.{bytes_from}
use Rattle.answers.specs.Table.{Row, row, row_at, row_found, Verdict, done, first}
use Rattle.nibbles.specs.Nibbles.{pack, sum, first_wide}
use Rattle.ranges.specs.Ranges.{out_by}
use Rattle.patch.specs.Patch.{half_from}
use Rattle.edits.specs.Edits.{edit_rows, bus_rows}
use Rattle.operations.specs.Operations.{allowed}
use Rattle.messages.specs.Kinds.{maker, device, Behind, number_to, always, Packed, Dump, Operands, an_edit, a_bus_edit, an_operation}
use Rattle.messages.specs.Kinds.{Kind, of_dump, of_short, unknown, kind_of, count_of, shape_of, size_of, length_of, is_unknown}

-- The byte at place i of a message, F0H at 0.
abbrev pub byte_at : List ℕ → ℕ → ℕ
byte_at m i = get_or m i 0

-- A dump's data bytes stand from place 5 on: two for each of its packed bytes. The sum stands behind them.
unfoldable pub data_of : ℕ → List ℕ → List ℕ
data_of size m = take (2 * size) (drop 5 m)

unfoldable pub packed_of : ℕ → List ℕ → List ℕ
packed_of size m = pack (data_of size m)

unfoldable pub sum_of : ℕ → List ℕ → ℕ
sum_of size m = byte_at m (5 + 2 * size)

-- The tests of a dump's data bytes d and of the sum s behind them: 9, 10.
unfoldable pub data_rows : List ℕ → ℕ → List Row
data_rows d s = row_at 9 (first_wide d) ∷ row 10 (not (eqb s (sum (pack d)))) ∷ []

-- The test of the byte behind a dump's opcode: 8.
abbrev pub misnumbered : Behind → ℕ → Bool
misnumbered (number_to greatest) n = ltb greatest n
misnumbered (always byte) n = not (eqb n byte)

-- The bytes that come with a dump's answer: its number.
abbrev pub number_in : Behind → ℕ → List ℕ
number_in (number_to greatest) n = n ∷ []
number_in (always byte) n = []

-- The tests of a dump's packed bytes: 11 by their table, 12 by their buses.
abbrev pub packed_rows : Packed → List ℕ → List Row
packed_rows q p = row_found 11 (out_by (shape_of q).table p) ∷ row_at 12 (half_from (shape_of q).buses 0 p) ∷ []

-- The tests of a dump's data bytes d, of the sum s behind them, and of what they pack to.
abbrev pub sent_rows : Packed → List ℕ → ℕ → List Row
sent_rows q d s = data_rows d s ++ packed_rows q (pack d)

-- The tests of a dump behind its length: the byte n behind its opcode, then these.
abbrev pub dump_rows : Dump → ℕ → List ℕ → ℕ → List Row
dump_rows k n d s = row 8 (misnumbered k.behind n) ∷ sent_rows k.packed d s

-- The tests of a short message's bytes: an edit's own; 8 where an operation may not have them.
abbrev pub operand_rows : Operands → List ℕ → List Row
operand_rows an_edit b = edit_rows (get_or b 0 0) (get_or b 1 0)
operand_rows a_bus_edit b = bus_rows (get_or b 0 0) (get_or b 1 0) (get_or b 2 0) (get_or b 3 0)
operand_rows (an_operation o) b = row 8 (not (allowed o b)) ∷ []

-- The same of a short message's bytes as they are lent to a routine: another count of them is 7.
abbrev pub lent_operand_rows : Operands → List ℕ → List Row
lent_operand_rows o b = row 7 (not (eqb (length b) (count_of o))) ∷ operand_rows o b

-- The tests of each kind behind its length.
abbrev pub kind_rows : Kind → List ℕ → List Row
kind_rows (of_dump k) m =
    let size = size_of k.packed in
    dump_rows k (byte_at m 4) (data_of size m) (sum_of size m)
kind_rows (of_short k) m = operand_rows k.operands (bytes_from (count_of k.operands) 4 m)
kind_rows unknown m = []

-- The record of a message that passes: opcode, the number or the bytes as received, packed bytes.
abbrev pub record_of : Kind → List ℕ → Verdict
record_of (of_dump k) m = done k.opcode (number_in k.behind (byte_at m 4)) (packed_of (size_of k.packed) m)
record_of (of_short k) m = done k.opcode (bytes_from (count_of k.operands) 4 m) []
record_of unknown m = done 0 [] []

-- The table of a kind, from 6 on.
abbrev pub kind_table : Kind → List ℕ → List Row
kind_table k m = row 6 (is_unknown k) ∷ row 7 (not (eqb (length m) (length_of k))) ∷ kind_rows k m

-- The table, from 4 on.
abbrev pub message_rows : List ℕ → List Row
message_rows m =
    row 4 (not (eqb (byte_at m 1) maker)) ∷
    row 5 (not (eqb (byte_at m 2) device)) ∷
    kind_table (kind_of (byte_at m 3)) m

-- What a message comes to: the first row of the table that holds, else its record.
unfoldable pub judge : List ℕ → Verdict
judge m = first (message_rows m) (record_of (kind_of (byte_at m 3)) m)
