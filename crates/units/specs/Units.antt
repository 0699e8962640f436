-- A unit that follows the operations that it is sent (02 (vii)): what each of them does to it, and what it sends on.
use Rattle.std.specs.Prelude.{Bool, true, false, cond, ◌||◌, List, [], ◌∷◌, ℕ, suc, eqb, ltb, get_or}
use Rattle.std.proofs.Math.Option.{Option, none, some}
use Rattle.answers.specs.Table.{Verdict, done, refused}
use Rattle.streams.specs.Stream.{Report, walk}
use Rattle.operations.specs.declared.Operation.{Operation}
use Rattle.operations.specs.declared.Operation.TheVariants.{Request as a_request, Group as a_group, Bank as a_bank, Unlock as an_unlock, Store as a_store}
use Rattle.operations.specs.Operations.{last_unit, any_unit}
use Rattle.messages.specs.declared.kinds.Operands.{Operands}
use Rattle.messages.specs.declared.kinds.Operands.TheVariants.{Edit as an_edit, BusEdit as a_bus_edit, Operation as an_operation}
use Rattle.messages.specs.declared.kinds.Kind.{Kind}
use Rattle.messages.specs.declared.kinds.Kind.TheVariants.{Dump as of_dump, Short as of_short, Unknown as unknown}
use Rattle.messages.specs.Kinds.{group_mode, kind_of}
use Rattle.messages.specs.Judge.{judge}
use Rattle.messages.specs.Layout.{message}
pub use Rattle.units.specs.declared.Unit.{Unit}

-- A bank message sets the bank and the lock.
abbrev pub in_bank : ℕ → Unit → Unit
in_bank b u = record { bank = b; locked = true; grouped = u.grouped; number = u.number }

-- Unlock clears the lock.
abbrev pub unlocked : Unit → Unit
unlocked u = record { bank = u.bank; locked = false; grouped = u.grouped; number = u.number }

-- A group message turns group on and sets the number.
abbrev pub in_group : ℕ → Unit → Unit
in_group id u = record { bank = u.bank; locked = u.locked; grouped = true; number = id }

abbrev pub group_message : ℕ → ℕ → List ℕ
group_message total id = message (of_short group_mode) (total ∷ id ∷ []) []

-- A group message with that ID is sent on with the ID raised by one, unless it has ID 5, the greatest that is accepted.
abbrev pub raised : ℕ → ℕ → List ℕ
raised total id = cond (ltb id last_unit) (group_message total (suc id)) []

-- A 0EH message is meant for this unit exactly when group is off and the ID is 0, or when group is on and the ID is its own or 7FH.
abbrev pub meant_for : Unit → ℕ → Bool
meant_for u id = cond u.grouped (eqb id any_unit || eqb id u.number) (eqb id 0)

-- What a message does: the unit after it, the message that is sent on, if any, and whether it is a 0EH message that is meant for this unit.
pub record Stepped : Type 0 where
  pub unit : Unit
  pub sent : List ℕ
  pub meant : Bool

-- The unit becomes u, and that is all.
abbrev pub stays : Unit → Stepped
stays u = record { unit = u; sent = []; meant = false }

abbrev pub joined : Unit → ℕ → ℕ → Stepped
joined u total id = record { unit = in_group id u; sent = raised total id; meant = false }

-- An operation with its bytes b: what it is not said to change stays.
abbrev pub obeyed : Unit → Operation → List ℕ → Stepped
obeyed u a_request b = stays u
obeyed u a_group b = joined u (get_or b 0 0) (get_or b 1 0)
obeyed u a_bank b = stays (in_bank (get_or b 0 0) u)
obeyed u an_unlock b = stays (unlocked u)
obeyed u a_store b = record { unit = u; sent = []; meant = meant_for u (get_or b 2 0) }

-- A message of a kind with its bytes: dumps and edits change nothing of a unit.
abbrev pub by_operands : Unit → Operands → List ℕ → Stepped
by_operands u an_edit b = stays u
by_operands u a_bus_edit b = stays u
by_operands u (an_operation o) b = obeyed u o b

abbrev pub by_kind : Unit → Kind → List ℕ → Stepped
by_kind u (of_dump k) b = stays u
by_kind u (of_short k) b = by_operands u k.operands b
by_kind u unknown b = stays u

-- By what a message comes to: one that is refused changes nothing and sends nothing on.
abbrev pub step_by : Unit → Verdict → Stepped
step_by u (done opcode b p) = by_kind u (kind_of opcode) b
step_by u (refused o) = stays u

abbrev pub step_or : Unit → Option Report → Stepped
step_or u none = stays u
step_or u (some r) = step_by u r.verdict

-- The step: what the first message that starts at a place or later does to a unit.
unfoldable pub stepping : Unit → List ℕ → ℕ → Stepped
stepping u s place = step_or u (walk judge s place)
