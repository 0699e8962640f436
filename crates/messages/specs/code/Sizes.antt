-- What the code asks of a kind: how many packed bytes it has, whether it fits, and what packed bytes are tested for as they are lent.
use Rattle.std.specs.Prelude.{Bool, true, not, ◌&&◌, List, ◌∷◌, ℕ, ◌+◌, ◌*◌, eqb, leb, length}
use Rattle.answers.specs.Table.{Row, row}
use Rattle.messages.specs.Kinds.{Packed, Kind, of_dump, of_short, unknown, size_of, count_of, master}
use Rattle.messages.specs.Judge.{packed_rows}

-- The packed bytes of a kind: none where it is no dump.
abbrev pub packed_size : Kind → ℕ
packed_size (of_dump k) = size_of k.packed
packed_size (of_short k) = 0
packed_size unknown = 0

-- A kind's length is what its parts add up to, and it fits the room that the code has for it: as many packed bytes as a master has, four bytes with the answer.
abbrev pub sized : Kind → Bool
sized (of_dump k) = eqb k.length (7 + 2 * size_of k.packed) && leb (size_of k.packed) master
sized (of_short k) = eqb k.length (5 + count_of k.operands) && leb (count_of k.operands) 4
sized unknown = true

-- Packed bytes as they are lent to a routine: another count of them is 7.
abbrev pub lent_rows : Packed → List ℕ → List Row
lent_rows q p = row 7 (not (eqb (length p) (size_of q))) ∷ packed_rows q p
