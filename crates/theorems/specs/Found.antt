-- Request (vi), say what was found: 11 comes with the value that stands at its place, or that an edit would store there; every other answer with 0.
use Rattle.std.specs.Prelude.{◌≡◌, List, [], ◌∷◌, ℕ, ◌-◌, ℤ, pos, length, get_or}
use Rattle.std.proofs.Math.Option.{Option, none, some}
use Rattle.answers.specs.declared.Outcome.{Outcome}
use Rattle.answers.specs.Lists.{All}
use Rattle.answers.specs.Table.{outcome_of}
use Rattle.answers.specs.Effect.{tested}
use Rattle.streams.specs.Stream.{packed_in, reports_from}
use Rattle.ranges.specs.Ranges.{Table, value_in, counted_rows}
use Rattle.fields.specs.Fields.{value_at}
use Rattle.patch.specs.Patch.{source_at, patch_rows, holding}
use Rattle.splits.specs.Splits.{split_fields, split_rows}
use Rattle.names.specs.Names.{naming, showing}
use Rattle.edits.specs.Edits.{extended, stored_for, edit_rows, bus_rows, applying, applying_bus}
use Rattle.messages.specs.declared.kinds.Kind.{Kind}
use Rattle.messages.specs.declared.kinds.Kind.TheVariants.{Dump as of_dump, Short as of_short, Unknown as unknown}
use Rattle.messages.specs.declared.kinds.Operands.{Operands}
use Rattle.messages.specs.declared.kinds.Operands.TheVariants.{Edit as an_edit, BusEdit as a_bus_edit, Operation as an_operation}
use Rattle.messages.specs.declared.kinds.Packed.{Packed}
use Rattle.messages.specs.Kinds.{shape_of, kind_of}
use Rattle.messages.specs.Judge.{byte_at, lent_operand_rows, record_of, judge}
use Rattle.messages.specs.code.Sizes.{lent_rows}
use Rattle.judging.specs.code.Judged.{bytes_in}
use Rattle.reading.specs.code.Told.{walked, reads}
use Rattle.reading.specs.code.Rooms.{made}
use Rattle.writing.specs.Writing.{writing, writing_bank}
use Rattle.units.specs.declared.Unit.{Unit}
use Rattle.units.specs.code.Steps.{steps}
use Rattle.pairs.specs.Pairs.{pair_rows}
use Rattle.edit_lists.specs.Plan.{planning}
use Rattle.edit_lists.specs.Check.{checking}
use Rattle.theorems.specs.Answers.{found, complete, patch_at}

-- An outcome tells what was found, where `value` says what stands at each place.
pub record Tells (value : ℕ → ℤ) (o : Outcome) : Type 0 where
  pub out : o.answer ≡ 11 → o.value ≡ value o.detail
  pub other : (o.answer ≡ 11 → ⊥) → o.value ≡ pos 0

-- What stands at each place of a patch.
abbrev pub in_patch : List ℕ → ℕ → ℤ
in_patch p place = value_at place (get_or p place 0)

-- The same of packed bytes that may have a table.
abbrev pub standing : Option Table → List ℕ → ℕ → ℤ
standing none p place = pos (get_or p place 0)
standing (some t) p place = value_in t place (get_or p place 0)

-- What an edit by its bytes would store at its place, or at each place of its bus; an operation stores nothing.
abbrev pub storing : Operands → List ℕ → ℕ → ℤ
storing an_edit b place = value_at place (stored_for (get_or b 0 0) (get_or b 1 0))
storing a_bus_edit b place =
    value_at place (get_or (get_or b 1 0 ∷ extended (get_or b 2 0) ∷ get_or b 3 0 ∷ []) (place - source_at (get_or b 0 0)) 0)
storing (an_operation o) b place = pos 0

-- What a message of a kind brings, with the bytes b that come with the answer and a dump's packed bytes p.
abbrev pub bringing : Kind → List ℕ → List ℕ → ℕ → ℤ
bringing (of_dump k) b p = standing (shape_of k.packed).table p
bringing (of_short k) b p = storing k.operands b
bringing unknown b p = λ place. pos 0

-- The same of a complete message, its real-time bytes dropped.
abbrev pub brought_by : List ℕ → ℕ → ℤ
brought_by m =
    let k = kind_of (byte_at m 3) in
    bringing k (bytes_in (record_of k m)) (packed_in (record_of k m))

-- The outcome of two patches, the first before the second.
abbrev pub FirstThenSecond : List ℕ → List ℕ → Outcome → Type 0
FirstThenSecond a b o = let own = tested (patch_rows a) in ((own.answer ≡ 0 → ⊥) → Tells (in_patch a) o) × (own.answer ≡ 0 → Tells (in_patch b) o)

pub record SaysWhatWasFound : Type 0 where
  -- a message that is read, by the walk, in each report, into any buffer, or by itself
  pub walk : (s : List ℕ) (place : ℕ) → Tells (brought_by (complete (found s place))) (walked s place).outcome
  pub reports_each : (s : List ℕ) (place : ℕ)
      → All (λ r. Tells (brought_by (complete (found s r.start))) (outcome_of r.verdict)) (reports_from judge (length s) s place)
  pub read : (s : List ℕ) (place : ℕ) (lent : List ℕ) → Tells (brought_by (complete (found s place))) (reads s place lent).result.report.outcome
  pub reports_made : (s : List ℕ) (place : ℕ) (room : List ℕ)
      → All (λ r. Tells (brought_by (complete (found s r.start))) (outcome_of r.verdict)) (made s place room)
  pub judges : (m : List ℕ) → Tells (brought_by m) (outcome_of (judge m))
  -- a unit's step
  pub step : (u : Unit) (s : List ℕ) (place : ℕ) → Tells (brought_by (complete (found s place))) (steps u s place).report.outcome
  -- a message that is written; a bank, by the patch that it names
  pub write : (k : Kind) (b p out : List ℕ) → Tells (bringing k b p) (writing k b p out).result
  pub bank : (ps out : List ℕ) → let r = (writing_bank ps out).result in Tells (in_patch (patch_at r.place ps)) r.outcome
  -- a patch that is tested, named, or asked for a parameter's value
  pub test : (p : List ℕ) → Tells (in_patch p) (tested (patch_rows p))
  pub set_name : (p text : List ℕ) → Tells (in_patch p) (naming p text).result
  pub show_name : (p out : List ℕ) → Tells (in_patch p) (showing p out).result
  pub held : (parameter : ℕ) (p : List ℕ) → Tells (in_patch p) (holding parameter p).outcome
  -- a split that is tested
  pub test_split : (p : List ℕ) → Tells (standing (some split_fields) p) (tested (split_rows p))
  -- the tests of an edit and of packed bytes, by themselves
  pub test_edit : (parameter v : ℕ) → Tells (storing an_edit (parameter ∷ v ∷ [])) (tested (edit_rows parameter v))
  pub test_bus_edit : (bus source amount destination : ℕ)
      → Tells (storing a_bus_edit (bus ∷ source ∷ amount ∷ destination ∷ [])) (tested (bus_rows bus source amount destination))
  pub test_operands : (o : Operands) (b : List ℕ) → Tells (storing o b) (tested (lent_operand_rows o b))
  pub test_packed : (q : Packed) (p : List ℕ) → Tells (standing (shape_of q).table p) (tested (lent_rows q p))
  pub test_table : (n : ℕ) (t : Option Table) (p : List ℕ) → Tells (standing t p) (tested (counted_rows n t p))
  -- an edit: refused by its own tests, what it would store; else what the patch has
  pub edit : (parameter v : ℕ) (p : List ℕ)
      → let o = (applying parameter v p).result in
      let own = tested (edit_rows parameter v) in
      ((own.answer ≡ 0 → ⊥) → Tells (storing an_edit (parameter ∷ v ∷ [])) o) × (own.answer ≡ 0 → Tells (in_patch p) o)
  pub bus_edit_tells : (bus source amount destination : ℕ) (p : List ℕ)
      → let o = (applying_bus bus source amount destination p).result in
      let own = tested (bus_rows bus source amount destination) in
      ((own.answer ≡ 0 → ⊥) → Tells (storing a_bus_edit (bus ∷ source ∷ amount ∷ destination ∷ [])) o) × (own.answer ≡ 0 → Tells (in_patch p) o)
  -- two patches: refused by the tests of the first, what it has; else what the second has
  pub test_pair : (a b : List ℕ) → FirstThenSecond a b (tested (pair_rows a b))
  pub check_plan : (a b list : List ℕ) → FirstThenSecond a b (checking a b list)
  pub plan : (a b out : List ℕ) → FirstThenSecond a b (planning a b out).result
