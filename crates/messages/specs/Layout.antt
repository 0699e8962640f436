-- The messages as our writer writes them, from what it is given: no real time inside.
use Rattle.std.specs.Prelude.{not, List, [], ◌∷◌, ◌++◌, ℕ, eqb, length, get_or}
use Rattle.answers.specs.Table.{Row, row, Verdict, done}
use Rattle.streams.specs.Bytes.{framed}
use Rattle.nibbles.specs.Nibbles.{nibbles, sum}
use Rattle.messages.specs.Kinds.{maker, device, Behind, number_to, always, Dump, Kind, of_dump, of_short, unknown, opcode_of, size_of}
use Rattle.messages.specs.Judge.{misnumbered, packed_rows, lent_operand_rows}

-- F0H 10H 06H, the opcode, its bytes, F7H.
abbrev pub message_of : ℕ → List ℕ → List ℕ
message_of opcode bytes = framed (maker ∷ device ∷ opcode ∷ bytes)

-- A dump: the byte behind the opcode (number, version or zero), the nibbles, the sum of the packed bytes.
unfoldable pub dump : ℕ → ℕ → List ℕ → List ℕ
dump opcode number packed = message_of opcode (number ∷ (nibbles packed ++ (sum packed ∷ [])))

-- The byte behind a dump's opcode: the number that comes with the answer, or always the same.
abbrev pub behind_for : Behind → List ℕ → ℕ
behind_for (number_to greatest) b = get_or b 0 0
behind_for (always byte) b = byte

-- A message of a kind, with the bytes b that come with the answer and a dump's packed bytes p.
abbrev pub message : Kind → List ℕ → List ℕ → List ℕ
message (of_dump k) b p = dump k.opcode (behind_for k.behind b) p
message (of_short k) b p = message_of k.opcode b
message unknown b p = []

-- Its record.
abbrev pub record_for : Kind → List ℕ → List ℕ → Verdict
record_for k b p = done (opcode_of k) b p

-- What the writer of a dump tests of the byte behind its opcode and of its packed bytes: 7, 8, then their own 11 and 12.
abbrev pub dump_given : Dump → ℕ → List ℕ → List Row
dump_given k n p = row 7 (not (eqb (length p) (size_of k.packed))) ∷ row 8 (misnumbered k.behind n) ∷ packed_rows k.packed p

-- What a writer tests of what it is given; of a short message the count of its bytes, then their tests.
abbrev pub given_rows : Kind → List ℕ → List ℕ → List Row
given_rows (of_dump k) b p = dump_given k (behind_for k.behind b) p
given_rows (of_short k) b p = lent_operand_rows k.operands b
given_rows unknown b p = []
