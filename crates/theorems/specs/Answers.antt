-- Demand 1: the answer, detail and value of every routine that may refuse are those of the first row of its table that holds, done exactly when none
-- does; refused, every lent byte is the same, and done, those behind the output are.
use Rattle.std.specs.Prelude.{◌≡◌, Bool, true, false, cond, not, ◌||◌, List, [], ◌∷◌, ◌++◌, map, ◌⊎◌, ℕ, zero, suc, ◌*◌, ◌/◌, ◌%◌, ◌≤◌, ◌<◌, eqb, ltb, pos, length, take, drop, get_or}
use Rattle.std.proofs.Math.Option.{Option, some}
use Rattle.answers.specs.declared.Outcome.{Outcome}
use Rattle.answers.specs.Lists.{All}
use Rattle.answers.specs.Table.{Row, row, Verdict, done, outcome, outcome_of, four}
use Rattle.answers.specs.Effect.{tested}
use Rattle.answers.specs.promises.Decides.{Decides, Keeps}
use Rattle.streams.specs.Bytes.{body, without_real_time, framed}
use Rattle.streams.specs.Stream as stream
use Rattle.streams.specs.Stream.{packed_in, reports_from}
use Rattle.nibbles.specs.Nibbles.{nibbles, pack, nibble_rows, packing, unpacking}
use Rattle.ranges.specs.Ranges.{Table, counted_rows}
use Rattle.fields.specs.Fields.{size}
use Rattle.fields.specs.Parameters.{parameter_row, ranging}
use Rattle.patch.specs.Patch.{field_rows, patch_rows, held_rows, holding}
use Rattle.splits.specs.Splits.{split_rows}
use Rattle.names.specs.Names.{shown, name_rows, naming, showing}
use Rattle.edits.specs.Edits.{edit_rows, bus_rows, applying, applying_bus}
use Rattle.messages.specs.declared.kinds.Kind.{Kind}
use Rattle.messages.specs.declared.kinds.Operands.{Operands}
use Rattle.messages.specs.declared.kinds.Packed.{Packed}
use Rattle.messages.specs.Kinds.{kind_of}
use Rattle.messages.specs.Judge.{byte_at, lent_operand_rows, record_of, message_rows, judge}
use Rattle.messages.specs.code.Sizes.{lent_rows}
use Rattle.messages.specs.Layout.{message, given_rows}
use Rattle.reading.specs.code.Told.{walked, walked_with, reads}
use Rattle.answers.specs.declared.Placed.{Placed}
use Rattle.writing.specs.Writing.{writing, bank_bytes, bank_most, writing_bank}
use Rattle.units.specs.declared.Unit.{Unit}
use Rattle.units.specs.Units.{stays}
use Rattle.units.specs.code.Steps.{told, steps}
use Rattle.pairs.specs.Pairs.{pair_rows}
use Rattle.edit_lists.specs.Lists.{list_bytes}
use Rattle.edit_lists.specs.Plan.{plan as list_for, planning}
use Rattle.edit_lists.specs.Check.{accepts, checking}

-- The bytes from the first F0H on.
unfoldable pub from_start : List ℕ → List ℕ
from_start [] = []
from_start (b ∷ s) = cond (eqb b 0xF0) (b ∷ s) (from_start s)

-- There is none.
abbrev pub is_empty : List ℕ → Bool
is_empty [] = true
is_empty (b ∷ s) = false

-- What the walk finds: the bytes from the first F0H at a place or later.
abbrev pub found : List ℕ → ℕ → List ℕ
found s place = from_start (drop place s)

module _ (l : List ℕ) where
  -- What is left of them from the byte that ends the message on: the first of 80H..F7H behind the F0H.
  abbrev pub ending : List ℕ
  ending = drop (length (body (drop 1 l))) (drop 1 l)

  -- The complete message, its real-time bytes dropped.
  abbrev pub complete : List ℕ
  complete = framed (without_real_time (body (drop 1 l)))

  -- The record that it has if nothing refuses it, and its opcode, which is then the detail.
  abbrev pub record_in : Verdict
  record_in = record_of (kind_of (byte_at complete 3)) complete

  abbrev pub opcode_in : ℕ
  opcode_in = (outcome_of record_in).detail

  -- The walk's table: no F0H; cut; interrupted; the rows of a complete message, 4 to 12.
  abbrev pub walk_rows : List Row
  walk_rows =
      row 1 (is_empty l) ∷
      row 2 (is_empty ending) ∷
      row 3 (not (eqb (get_or ending 0 0) 0xF7)) ∷
      message_rows complete

-- 13 behind the rows: a lent output too short for so many bytes.
abbrev pub then_room : List Row → ℕ → List ℕ → List Row
then_room rows n out = rows ++ (row 13 (ltb (length out) n) ∷ [])

-- A call that is lent bytes of which it may change the first n.
pub record Answered (rows : List Row) (detail n : ℕ) (old : List ℕ) (o : Outcome) (after : List ℕ) : Type 0 where
  pub decides : Decides rows detail o
  pub keeps : Keeps o.answer n old after

-- The rows of a bank's n patches, patch after patch, and its table.
abbrev pub patches_rows : ℕ → List ℕ → List Row
patches_rows zero ps = []
patches_rows (suc n) ps = field_rows (take size ps) ++ patches_rows n (drop size ps)

abbrev pub bank_table : List ℕ → List ℕ → List Row
bank_table ps out =
    row 7 (not (eqb (length ps % size) 0) || ltb bank_most (length ps)) ∷
    then_room (patches_rows (length ps / size) ps) (length (bank_bytes ps)) out

-- The patch numbered k of a bank.
abbrev pub patch_at : ℕ → List ℕ → List ℕ
patch_at k ps = take size (drop (k * size) ps)

-- The place that comes with a bank's outcome: with the refusal of a patch, the number of that patch, and no patch before it is refused; with
-- every other answer 0.
pub data PlaceOf (ps : List ℕ) (b : Placed) : Type 0 where
  refused_patch : b.outcome ≡ tested (field_rows (patch_at b.place ps)) → (b.outcome.answer ≡ 0 → ⊥)
      → ((k : ℕ) → k < b.place → tested (field_rows (patch_at k ps)) ≡ outcome 0 0) → PlaceOf ps b
  no_patch : b.place ≡ 0 → (b.outcome.answer ≡ 0) ⊎ (b.outcome.answer ≡ 7) ⊎ (b.outcome.answer ≡ 13) → PlaceOf ps b

-- Four bytes are the bytes b, which are at most four, with zeros behind them.
pub record AreThese (b four : List ℕ) : Type 0 where
  pub count : length four ≡ 4
  pub each : (i : ℕ) → i < 4 → get_or four i 0 ≡ get_or b i 0

-- Demand 1, whole.
pub record Demand1 : Type 0 where
  pub walk : (s : List ℕ) (place : ℕ) → let l = found s place in Decides (walk_rows l) (opcode_in l) (walked s place).outcome
  -- where there is no F0H, start and end are the input's length, and nothing stands between them
  pub nowhere : (s : List ℕ) (place : ℕ) → found s place ≡ [] → let r = walked s place in (r.start ≡ length s) × (r.end ≡ length s) × (r.noise ≡ 0)
  -- each report of a stream, from any place on, answers as the walk from its start
  pub reports_each : (s : List ℕ) (place : ℕ)
      → All (λ r. let l = found s r.start in Decides (walk_rows l) (opcode_in l) (outcome_of r.verdict)) (reports_from judge (length s) s place)
  pub read : (s : List ℕ) (place : ℕ) (lent : List ℕ)
      → let l = found s place in
      let n = length (packed_in (record_in l)) in
      let e = reads s place lent in
      Answered (then_room (walk_rows l) n lent) (opcode_in l) n lent e.result.report.outcome e.lent
  -- with every answer a record's start and end are those of the walk, and so is its noise
  pub read_where : (s : List ℕ) (place : ℕ) (lent : List ℕ)
      → let r = (reads s place lent).result.report in
      let w = walked s place in
      (r.start ≡ w.start) × (r.end ≡ w.end) × (r.noise ≡ w.noise)
  -- the bytes that come with the answer are zero with every answer but 0
  pub read_bytes : (s : List ℕ) (place : ℕ) (lent : List ℕ)
      → let r = (reads s place lent).result in (r.report.outcome.answer ≡ 0 → ⊥) → r.bytes ≡ four []
  -- with answer 0 they are those of the record, zero behind the last; so with the walk
  pub read_given : (s : List ℕ) (place : ℕ) (lent : List ℕ) (r : stream.Report) (o : ℕ) (b p : List ℕ)
      → stream.walk judge s place ≡ some r → r.verdict ≡ done o b p → length p ≤ length lent → AreThese b (reads s place lent).result.bytes
  pub walk_given : (s : List ℕ) (place : ℕ) (r : stream.Report) (o : ℕ) (b p : List ℕ)
      → stream.walk judge s place ≡ some r → r.verdict ≡ done o b p → AreThese b (walked_with s place).bytes
  -- a unit's step: it reports as the walk; refused, and where there is no message, the unit stays as it was and sends nothing on
  pub step : (u : Unit) (s : List ℕ) (place : ℕ) → (steps u s place).report ≡ walked s place
  pub step_refused : (u : Unit) (s : List ℕ) (place : ℕ) → ((walked s place).outcome.answer ≡ 0 → ⊥) → steps u s place ≡ told (walked s place) (stays u)
  -- a patch, and a split
  pub test : (p : List ℕ) → Decides (patch_rows p) 0 (tested (patch_rows p))
  pub test_split : (p : List ℕ) → Decides (split_rows p) 0 (tested (split_rows p))
  -- the range of a parameter, and its value in a patch
  pub range : (parameter : ℕ) → Decides (parameter_row parameter ∷ []) 0 (ranging parameter).outcome
  pub held : (parameter : ℕ) (p : List ℕ) → Decides (held_rows parameter p) 0 (holding parameter p).outcome
  -- both are told only when done: refused, they are 0
  pub range_refused : (parameter : ℕ) → let r = ranging parameter in (r.outcome.answer ≡ 0 → ⊥) → (r.least ≡ pos 0) × (r.greatest ≡ pos 0)
  pub held_refused : (parameter : ℕ) (p : List ℕ) → let h = holding parameter p in (h.outcome.answer ≡ 0 → ⊥) → h.value ≡ pos 0
  -- the tests of an edit and of what a message packs, by themselves
  pub test_edit : (parameter v : ℕ) → Decides (edit_rows parameter v) 0 (tested (edit_rows parameter v))
  pub test_bus_edit : (bus source amount destination : ℕ)
      → Decides (bus_rows bus source amount destination) 0 (tested (bus_rows bus source amount destination))
  pub test_packed : (q : Packed) (p : List ℕ) → Decides (lent_rows q p) 0 (tested (lent_rows q p))
  pub test_operands : (o : Operands) (b : List ℕ) → Decides (lent_operand_rows o b) 0 (tested (lent_operand_rows o b))
  pub test_table : (n : ℕ) (t : Option Table) (p : List ℕ) → Decides (counted_rows n t p) 0 (tested (counted_rows n t p))
  -- a complete message, its real-time bytes dropped
  pub judges : (m : List ℕ) → Decides (message_rows m) (outcome_of (record_of (kind_of (byte_at m 3)) m)).detail (outcome_of (judge m))
  pub set_name : (p text : List ℕ) → let e = naming p text in Answered (name_rows p text) 0 8 p e.result e.lent
  -- the text is eight characters where the patch has its length; where it has not, row 7 refuses
  pub show_name : (p out : List ℕ)
      → let n = length (map shown (take 8 p)) in
      let e = showing p out in
      Answered (then_room (patch_rows p) n out) n n out e.result e.lent
  pub edit : (parameter v : ℕ) (p : List ℕ)
      → let e = applying parameter v p in Answered (edit_rows parameter v ++ patch_rows p) 0 (length p) p e.result e.lent
  pub bus_edit_tells : (bus source amount destination : ℕ) (p : List ℕ)
      → let e = applying_bus bus source amount destination p in
      Answered (bus_rows bus source amount destination ++ patch_rows p) 0 (length p) p e.result e.lent
  pub write : (k : Kind) (b p out : List ℕ)
      → let n = length (message k b p) in
      let e = writing k b p out in
      Answered (then_room (given_rows k b p) n out) n n out e.result e.lent
  pub bank : (ps out : List ℕ)
      → let n = length (bank_bytes ps) in
      let e = writing_bank ps out in
      Answered (bank_table ps out) n n out e.result.outcome e.lent
  pub bank_place : (ps out : List ℕ) → PlaceOf ps (writing_bank ps out).result
  -- two patches by themselves, a list of edits that is to turn one into the other, and the shortest one
  pub test_pair : (a b : List ℕ) → Decides (pair_rows a b) 0 (tested (pair_rows a b))
  pub check_plan : (a b list : List ℕ) → Decides (pair_rows a b ++ (row 20 (not (accepts a b list)) ∷ [])) 0 (checking a b list)
  pub plan : (a b out : List ℕ)
      → let n = length (list_bytes (list_for a b)) in
      let e = planning a b out in
      Answered (then_room (pair_rows a b) n out) n n out e.result e.lent
  pub packs : (sent out : List ℕ)
      → let n = length (pack sent) in
      let e = packing sent out in
      Answered (then_room (nibble_rows sent) n out) n n out e.result e.lent
  pub unpacks : (bytes out : List ℕ)
      → let n = length (nibbles bytes) in
      let e = unpacking bytes out in
      Answered (then_room [] n out) n n out e.result e.lent
