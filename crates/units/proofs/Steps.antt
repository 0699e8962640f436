-- What a step comes to by the report of the walk and the bytes that come with it.
use mathlib.Core.Path.{◌≡◌, refl, sym, ◌∙◌}
use mathlib.Core.List.{List}
use mathlib.Core.Option.{Option, none, some}
use Prim.Native.Nat.{ℕ, ◌%◌}
use native.Mathlib.Nat.{mod-eq_of_lt}
use native.Mathlib.Omega.{arith}
use lib.ListN.{length}
use Rattle.answers.specs.Table.{Verdict, done, refused, answer_of, four}
use Rattle.streams.specs.Stream.{Report, walk}
use Rattle.streams.proofs.Complete.{complete}
use Rattle.operations.specs.declared.Operation.{Operation}
use Rattle.operations.specs.declared.Operation.TheVariants.{Request as a_request, Group as a_group, Bank as a_bank, Unlock as an_unlock, Store as a_store}
use Rattle.messages.specs.declared.kinds.Operands.{Operands}
use Rattle.messages.specs.declared.kinds.Operands.TheVariants.{Edit as an_edit, BusEdit as a_bus_edit, Operation as an_operation}
use Rattle.messages.specs.declared.kinds.Kind.{Kind}
use Rattle.messages.specs.declared.kinds.Kind.TheVariants.{Dump as of_dump, Short as of_short, Unknown as unknown}
use Rattle.messages.specs.Kinds.{kind_of}
use Rattle.messages.specs.Judge.{judge}
use Rattle.messages.proofs.Accepted.{accepted}
use Rattle.reading.specs.declared.recording.Reading.{Reading}
use Rattle.reading.specs.code.Told.{report_or, bytes_found, walked, walked_with}
use Rattle.units.specs.code.Steps.{told, steps}
use Rattle.units.specs.Units.{Unit, Stepped, stays, obeyed, by_operands, by_kind, step_by, step_or, stepping}

-- A message that is refused, and none, changes nothing.
pub refused_stays : (u : Unit) (s : List ℕ) (place : ℕ) → ((walked s place).outcome.answer ≡ 0 → ⊥) → stepping u s place ≡ stays u
unfolding stepping
refused_stays u s place h = by_walk (walk judge s place) h
  where
    by_verdict : (v : Verdict) → (answer_of v ≡ 0 → ⊥) → step_by u v ≡ stays u
    by_verdict (done o b p) h = absurd (h refl)
    by_verdict (refused o) h = refl

    by_walk : (o : Option Report) → ((report_or (length s) o).outcome.answer ≡ 0 → ⊥) → step_or u o ≡ stays u
    by_walk none h = refl
    by_walk (some r) h = by_verdict r.verdict h

-- Four bytes are enough for what an operation looks at.
by_operation : (u : Unit) (o : Operation) (b : List ℕ) → obeyed u o (four b) ≡ obeyed u o b
by_operation u a_request b = refl
by_operation u a_group b = refl
by_operation u a_bank b = refl
by_operation u an_unlock b = refl
by_operation u a_store b = refl

by_its_operands : (u : Unit) (o : Operands) (b : List ℕ) → by_operands u o (four b) ≡ by_operands u o b
by_its_operands u an_edit b = refl
by_its_operands u a_bus_edit b = refl
by_its_operands u (an_operation o) b = by_operation u o b

four_enough : (u : Unit) (k : Kind) (b : List ℕ) → by_kind u k (four b) ≡ by_kind u k b
four_enough u (of_dump k) b = refl
four_enough u (of_short k) b = by_its_operands u k.operands b
four_enough u unknown b = refl

-- A message that is accepted: its opcode finds its kind.
pub accepted_step : (u : Unit) (s : List ℕ) (place : ℕ) → (walked s place).outcome.answer ≡ 0
    → by_kind u (kind_of ((walked s place).outcome.detail % 256)) (four (bytes_found (walk judge s place))) ≡ stepping u s place
unfolding stepping
accepted_step u s place z = by_walk (walk judge s place) refl z
  where
    by_walk : (o : Option Report) → walk judge s place ≡ o → (report_or (length s) o).outcome.answer ≡ 0
        → by_kind u (kind_of ((report_or (length s) o).outcome.detail % 256)) (four (bytes_found o)) ≡ step_or u o
    by_walk none e z = absurd (omega arith)
    by_walk (some r) e z =
        let c = complete judge s place r e z in
        let a = accepted c.content (rw (← c.judged) z) in
        let v = c.judged ∙ a.verdict in
        rw (v, mod-eq_of_lt a.below) (four_enough u (kind_of a.opcode) a.bytes)

-- The same of what the walk gave, as the code tells it.
pub quiet_step : (r : Reading) (u : Unit) (s : List ℕ) (place : ℕ) → r ≡ walked_with s place → (r.report.outcome.answer ≡ 0 → ⊥)
    → stays u ≡ stepping u s place
quiet_step r u s place e h = sym (refused_stays u s place (rw e at h))

pub kind_step : (r : Reading) (k : Kind) (u : Unit) (s : List ℕ) (place : ℕ) → r ≡ walked_with s place → k ≡ kind_of (r.report.outcome.detail % 256)
    → r.report.outcome.answer ≡ 0 → by_kind u k r.bytes ≡ stepping u s place
kind_step r k u s place e q z = rw (q, e) (accepted_step u s place (rw e at z))

pub step_told : (r : Reading) (d : Stepped) (u : Unit) (s : List ℕ) (place : ℕ) → r ≡ walked_with s place → d ≡ stepping u s place
    → told r.report d ≡ steps u s place
step_told r d u s place e q = rw (e, q)
