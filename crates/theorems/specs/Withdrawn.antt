-- Request (ix), refusal 14 withdrawn: no input gives it, and the tables with their former row for it come to the same as without it.
use Rattle.std.specs.Prelude.{◌≡◌, List, [], ◌++◌, ℕ, length, get_or}
use Rattle.std.proofs.Math.Option.{Option}
use Rattle.answers.specs.declared.Outcome.{Outcome}
use Rattle.answers.specs.Lists.{All}
use Rattle.answers.specs.Table.{Row, Verdict, done, first, outcome_of}
use Rattle.answers.specs.Effect.{Effect, tested, changed, written}
use Rattle.streams.specs.Stream as stream
use Rattle.nibbles.specs.Nibbles.{packing, unpacking}
use Rattle.ranges.specs.Ranges.{Table, counted_rows}
use Rattle.fields.specs.Parameters.{ranging}
use Rattle.patch.specs.Patch.{patch_rows, holding}
use Rattle.splits.specs.Splits.{split_rows}
use Rattle.names.specs.Names.{naming, showing}
use Rattle.edits.specs.Edits.{edit_rows, bus_rows, with_bus, applying, applying_bus}
use Rattle.edits.specs.promises.Withdrawn.{with14}
use Rattle.messages.specs.declared.kinds.Kind.{Kind}
use Rattle.messages.specs.declared.kinds.Kind.TheVariants.{Dump as of_dump, Short as of_short, Unknown as unknown}
use Rattle.messages.specs.declared.kinds.Operands.{Operands}
use Rattle.messages.specs.declared.kinds.Operands.TheVariants.{Edit as an_edit, BusEdit as a_bus_edit, Operation as an_operation}
use Rattle.messages.specs.declared.kinds.Packed.{Packed}
use Rattle.messages.specs.Kinds.{kind_of}
use Rattle.messages.specs.Judge.{byte_at, bytes_from, lent_operand_rows, message_rows, record_of, judge}
use Rattle.messages.specs.Layout.{message, given_rows}
use Rattle.messages.specs.code.Sizes.{lent_rows}
use Rattle.reading.specs.code.Told.{walked, reads}
use Rattle.reading.specs.code.Rooms.{made}
use Rattle.pairs.specs.Pairs.{pair_rows}
use Rattle.edit_lists.specs.Plan.{planning}
use Rattle.edit_lists.specs.Check.{checking}
use Rattle.writing.specs.Writing.{writing, writing_bank}
use Rattle.units.specs.declared.Unit.{Unit}
use Rattle.units.specs.code.Steps.{steps}

abbrev pub Not14 : Outcome → Type 0
Not14 o = o.answer ≡ 14 → ⊥

-- Every routine that tests what it is handed, whatever that is.
pub record NoInputGives14 : Type 0 where
  -- reading, from any place of any stream, into any buffer
  pub walk : (s : List ℕ) (place : ℕ) → Not14 (walked s place).outcome
  pub reports_each : (s : List ℕ) (place : ℕ) → All (λ r. Not14 (outcome_of r.verdict)) (stream.reports_from judge (length s) s place)
  pub reports_made : (s : List ℕ) (place : ℕ) (room : List ℕ) → All (λ r. Not14 (outcome_of r.verdict)) (made s place room)
  pub read : (s : List ℕ) (place : ℕ) (lent : List ℕ) → Not14 (reads s place lent).result.report.outcome
  -- a unit's step
  pub step : (u : Unit) (s : List ℕ) (place : ℕ) → Not14 (steps u s place).report.outcome
  -- a message by itself, judged and recorded
  pub judges : (m : List ℕ) → Not14 (outcome_of (judge m))
  pub records : (start end noise : ℕ) (m lent : List ℕ) → Not14 (stream.read_into start end (judge m) noise lent).result.outcome
  -- writing a message of any kind, so both edits, and a bank
  pub write : (k : Kind) (b p out : List ℕ) → Not14 (writing k b p out).result
  pub bank : (ps out : List ℕ) → Not14 (writing_bank ps out).result.outcome
  -- applying either edit
  pub edit : (parameter v : ℕ) (p : List ℕ) → Not14 (applying parameter v p).result
  pub bus_edit_tells : (bus source amount destination : ℕ) (p : List ℕ) → Not14 (applying_bus bus source amount destination p).result
  -- the tests by themselves
  pub test : (p : List ℕ) → Not14 (tested (patch_rows p))
  pub test_split : (p : List ℕ) → Not14 (tested (split_rows p))
  pub range : (parameter : ℕ) → Not14 (ranging parameter).outcome
  pub held : (parameter : ℕ) (p : List ℕ) → Not14 (holding parameter p).outcome
  pub test_edit : (parameter v : ℕ) → Not14 (tested (edit_rows parameter v))
  pub test_bus_edit : (bus source amount destination : ℕ) → Not14 (tested (bus_rows bus source amount destination))
  pub test_packed : (q : Packed) (p : List ℕ) → Not14 (tested (lent_rows q p))
  pub test_operands : (o : Operands) (b : List ℕ) → Not14 (tested (lent_operand_rows o b))
  pub test_table : (n : ℕ) (t : Option Table) (p : List ℕ) → Not14 (tested (counted_rows n t p))
  -- two patches, a list of edits between them, and the shortest one
  pub test_pair : (a b : List ℕ) → Not14 (tested (pair_rows a b))
  pub check_plan : (a b list : List ℕ) → Not14 (checking a b list)
  pub plan : (a b out : List ℕ) → Not14 (planning a b out).result
  -- names and nibbles
  pub set_name : (p text : List ℕ) → Not14 (naming p text).result
  pub show_name : (p out : List ℕ) → Not14 (showing p out).result
  pub packs : (sent out : List ℕ) → Not14 (packing sent out).result
  pub unpacks : (bytes out : List ℕ) → Not14 (unpacking bytes out).result

-- The former table of a short message with the bytes b: that of a 0BH edit had the row, that of a 06H edit or of an operation had not.
abbrev pub former_short : Operands → List ℕ → List Row → List Row
former_short an_edit b rows = rows
former_short a_bus_edit b rows = with14 (get_or b 2 0) rows
former_short (an_operation o) b rows = rows

-- The former table of a kind: that of a dump had no such row.
abbrev pub formerly : Kind → List ℕ → List Row → List Row
formerly (of_dump k) b rows = rows
formerly (of_short k) b rows = former_short k.operands b rows
formerly unknown b rows = rows

-- What a message came to, what a writer left, what applying a 0BH edit left.
abbrev pub former_judge : List ℕ → Verdict
former_judge m =
    let k = kind_of (byte_at m 3) in
    first (formerly k (bytes_from 4 4 m) (message_rows m)) (record_of k m)

abbrev pub former_writing : Kind → List ℕ → List ℕ → List ℕ → Effect Outcome
former_writing k b p out = written (formerly k b (given_rows k b p)) (message k b p) out

abbrev pub former_applying_bus : ℕ → ℕ → ℕ → ℕ → List ℕ → Effect Outcome
former_applying_bus bus source amount destination p =
    changed 0 (with_bus bus source amount destination p) p
    (first (with14 amount (bus_rows bus source amount destination ++ patch_rows p)) (done 0 [] []))

-- The same verdict, detail and value included, and the same lent bytes: for every message, and so for all that is read; for every message written;
-- for every 0BH edit tested or applied.
pub record Withdrawn : Type 0 where
  pub judges : (m : List ℕ) → former_judge m ≡ judge m
  pub walk : (s : List ℕ) (place : ℕ) → stream.walk former_judge s place ≡ stream.walk judge s place
  pub reports : (s : List ℕ) (place : ℕ) → stream.reports_from former_judge (length s) s place ≡ stream.reports_from judge (length s) s place
  pub read : (s : List ℕ) (place : ℕ) (lent : List ℕ) → stream.read former_judge s place lent ≡ stream.read judge s place lent
  pub write : (k : Kind) (b p out : List ℕ) → former_writing k b p out ≡ writing k b p out
  pub test_operands : (o : Operands) (b : List ℕ) → tested (former_short o b (lent_operand_rows o b)) ≡ tested (lent_operand_rows o b)
  pub bus_edit_tells : (bus source amount destination : ℕ) (p : List ℕ)
      → former_applying_bus bus source amount destination p ≡ applying_bus bus source amount destination p
