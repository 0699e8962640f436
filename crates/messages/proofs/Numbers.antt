-- A message that is refused has one of the numbers 4 to 12, and one that is done has passed every row.
-- The numbers are read off the rows; what `first` gives is done or has the number of one of its rows.
use mathlib.Core.Path.{◌≡◌, refl}
use mathlib.Core.Bool.{false}
use mathlib.Core.List.{List}
use Prim.Native.Nat.{ℕ, ◌≤◌}
use native.Mathlib.Omega.{arith}
use lib.ListN.{length}
use Rattle.answers.specs.Lists.{All}
use Rattle.answers.specs.Table.{Row, number_of, Verdict, done, refused, answer_of}
use Rattle.answers.proofs.Lists.{all_weaken}
use Rattle.answers.proofs.Rows.{Refusals, first_number, zero_silent, row_silent, row_equal}
use Rattle.answers.specs.promises.Decides.{Silent}
use Rattle.nibbles.specs.Nibbles.{pack}
use Rattle.edits.specs.Edits.{edit_rows, bus_rows}
use Rattle.answers.specs.declared.Outcome.{Outcome}
use Rattle.messages.specs.Kinds.{Packed, Dump, Operands, an_edit, a_bus_edit, an_operation, Kind, of_dump, of_short, unknown}
use Rattle.messages.specs.Kinds.{count_of, kind_of, size_of, length_of, is_unknown}
use Rattle.messages.specs.Judge.{byte_at, data_of, data_rows, packed_rows, operand_rows, bytes_from, kind_rows, message_rows, record_of, judge}
use Rattle.messages.specs.promises.Numbers.{InTable, RefusedNumbers}
use Rattle.messages.specs.Layout.{behind_for, dump_given, given_rows}

-- The rows of a kind have numbers 8 to 12, whatever it tests.
abbrev pub OwnRows : List Row → Type 0
OwnRows rows = All (λ r. (8 ≤ number_of r) × (number_of r ≤ 12)) rows

packed_numbers : (q : Packed) (p : List ℕ) → OwnRows (packed_rows q p)
packed_numbers q p = omega arith

operand_numbers : (o : Operands) (b : List ℕ) → OwnRows (operand_rows o b)
unfolding edit_rows bus_rows
operand_numbers an_edit b = omega arith
operand_numbers a_bus_edit b = omega arith
operand_numbers (an_operation o) b = omega arith

pub kind_numbers : (k : Kind) (m : List ℕ) → OwnRows (kind_rows k m)
unfolding data_rows
kind_numbers (of_dump k) m =
    (omega arith, (omega arith, (omega arith, packed_numbers k.packed (pack (data_of (size_of k.packed) m)))))
kind_numbers (of_short k) m = operand_numbers k.operands (bytes_from (count_of k.operands) 4 m)
kind_numbers unknown m = tt

-- They are listed numbers.
abbrev RowsInTable : List Row → Type 0
RowsInTable rows = All (λ r. InTable (number_of r)) rows

listed : (rows : List Row) → OwnRows rows → RowsInTable rows
listed rows a = all_weaken _ _ (λ r h. omega arith) rows a

-- So are those of what a writer is given.
dump_given_numbers : (k : Dump) (n : ℕ) (p : List ℕ) → RowsInTable (dump_given k n p)
dump_given_numbers k n p = (omega arith, (omega arith, listed (packed_rows k.packed p) (packed_numbers k.packed p)))

given_numbers : (k : Kind) (b p : List ℕ) → RowsInTable (given_rows k b p)
given_numbers (of_dump k) b p = dump_given_numbers k (behind_for k.behind b) p
given_numbers (of_short k) b p = (omega arith, listed (operand_rows k.operands b) (operand_numbers k.operands b))
given_numbers unknown b p = tt

-- So is that of every row of the table.
pub row_numbers : (m : List ℕ) → RowsInTable (message_rows m)
row_numbers m =
    let k = kind_of (byte_at m 3) in
    (omega arith, (omega arith, (omega arith, (omega arith, listed (kind_rows k m) (kind_numbers k m)))))

-- Rows with listed numbers are refusals.
refusals : (rows : List Row) → RowsInTable rows → Refusals rows
refusals rows a = all_weaken _ _ (λ r h. omega arith) rows a

pub packed_refusals : (q : Packed) (p : List ℕ) → Refusals (packed_rows q p)
packed_refusals q p = refusals (packed_rows q p) (listed (packed_rows q p) (packed_numbers q p))

pub operand_refusals : (o : Operands) (b : List ℕ) → Refusals (operand_rows o b)
operand_refusals o b = refusals (operand_rows o b) (listed (operand_rows o b) (operand_numbers o b))

pub dump_given_refusals : (k : Dump) (n : ℕ) (p : List ℕ) → Refusals (dump_given k n p)
dump_given_refusals k n p = refusals (dump_given k n p) (dump_given_numbers k n p)

pub given_refusals : (k : Kind) (b p : List ℕ) → Refusals (given_rows k b p)
given_refusals k b p = refusals (given_rows k b p) (given_numbers k b p)

pub message_refusals : (m : List ℕ) → Refusals (message_rows m)
message_refusals m = refusals (message_rows m) (row_numbers m)

-- A verdict that is done.
pub data IsDone (v : Verdict) : Type 0 where
  made : (o : ℕ) (b p : List ℕ) → v ≡ done o b p → IsDone v

-- A message's record is one.
pub record_done : (k : Kind) (m : List ℕ) → IsDone (record_of k m)
record_done (of_dump k) m = made _ _ _ refl
record_done (of_short k) m = made _ _ _ refl
record_done unknown m = made _ _ _ refl

-- A refused message has a listed number.
pub judge_number : RefusedNumbers
unfolding judge
judge_number m r e = go (record_done (kind_of (byte_at m 3)) m)
  where
    go : IsDone (record_of (kind_of (byte_at m 3)) m) → InTable r.answer
    go (made o b p q) = first_number InTable (message_rows m) o b p r (row_numbers m) (rw q at e)

-- So its number is neither 0 nor 13.
pub refused_number : (m : List ℕ) (r : Outcome) → judge m ≡ refused r → (r.answer ≡ 0 → ⊥) × (r.answer ≡ 13 → ⊥)
refused_number m r e = let l = judge_number m r e in omega arith

-- No message is answered 13.
pub never_13 : (m : List ℕ) → answer_of (judge m) ≡ 13 → ⊥
never_13 m e = go (judge m) refl e
  where
    go : (v : Verdict) → judge m ≡ v → answer_of v ≡ 13 → ⊥
    go (done o b p) q e = omega arith
    go (refused r) q e = (refused_number m r q).1 e

-- A message that is done has 10H and 06H behind its F0H.
pub done_head : (m : List ℕ) → answer_of (judge m) ≡ 0 → (byte_at m 1 ≡ 0x10) × (byte_at m 2 ≡ 0x06)
unfolding judge
done_head m e =
    let s = zero_silent (message_rows m) (record_of (kind_of (byte_at m 3)) m) (message_refusals m) e in
    (row_equal 4 (byte_at m 1) 0x10 s.0, row_equal 5 (byte_at m 2) 0x06 s.1.0)

-- It is of a known kind, of its kind's length, and has passed its kind's rows.
pub record OfKind (k : Kind) (m : List ℕ) : Type 0 where
  pub known : is_unknown k ≡ false
  pub long : length m ≡ length_of k
  pub passed : Silent (kind_rows k m)

pub done_kind : (m : List ℕ) → answer_of (judge m) ≡ 0 → OfKind (kind_of (byte_at m 3)) m
unfolding judge
done_kind m e =
    let k = kind_of (byte_at m 3) in
    let s = zero_silent (message_rows m) (record_of k m) (message_refusals m) e in
    record { known = row_silent 6 (is_unknown k) s.1.1.0; long = row_equal 7 (length m) (length_of k) s.1.1.1.0; passed = s.1.1.1.1 }
