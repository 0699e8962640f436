-- What is sent on fills the room that the code has for it, or there is none: only a group message is sent on, and it has seven bytes.
use mathlib.Core.Path.{◌≡◌, refl}
use mathlib.Core.Bool.{Bool, true, false, cond}
use mathlib.Core.List.{List, []}
use mathlib.Core.Option.{Option, none, some}
use Prim.Native.Nat.{ℕ, suc, ◌-◌}
use lib.Dec.{ltb}
use lib.ListN.{length, take, drop, get_or, replicate}
use Rattle.answers.specs.Lists.{bytes_from}
use Rattle.answers.specs.Table.{Verdict, done, refused}
use Rattle.streams.specs.Stream.{Report, walk}
use Rattle.operations.specs.declared.Operation.{Operation}
use Rattle.operations.specs.declared.Operation.TheVariants.{Request as a_request, Group as a_group, Bank as a_bank, Unlock as an_unlock, Store as a_store}
use Rattle.messages.specs.declared.kinds.Operands.{Operands}
use Rattle.messages.specs.declared.kinds.Operands.TheVariants.{Edit as an_edit, BusEdit as a_bus_edit, Operation as an_operation}
use Rattle.messages.specs.declared.kinds.Kind.{Kind}
use Rattle.messages.specs.declared.kinds.Kind.TheVariants.{Dump as of_dump, Short as of_short, Unknown as unknown}
use Rattle.messages.specs.Kinds.{kind_of}
use Rattle.messages.specs.Judge.{judge}
use Rattle.units.specs.Units.{Unit, group_message, obeyed, by_operands, by_kind, step_by, step_or, stepping}
use Rattle.units.specs.code.Steps.{steps}
use Rattle.units.specs.promises.Followed.{sent_by}

-- The room holds these bytes, and zeros behind them.
abbrev Held : List ℕ → Type 0
Held b = (take (length b) (bytes_from 7 0 b) ≡ b) × (drop (length b) (bytes_from 7 0 b) ≡ replicate (7 - length b) 0)

group : (total id : ℕ) (t : Bool) → Held (cond t (group_message total (suc id)) [])
group total id true = (refl, refl)
group total id false = (refl, refl)

by_operation : (u : Unit) (o : Operation) (b : List ℕ) → Held (obeyed u o b).sent
by_operation u a_request b = (refl, refl)
by_operation u a_group b = group (get_or b 0 0) (get_or b 1 0) (ltb (get_or b 1 0) 5)
by_operation u a_bank b = (refl, refl)
by_operation u an_unlock b = (refl, refl)
by_operation u a_store b = (refl, refl)

by_its_operands : (u : Unit) (o : Operands) (b : List ℕ) → Held (by_operands u o b).sent
by_its_operands u an_edit b = (refl, refl)
by_its_operands u a_bus_edit b = (refl, refl)
by_its_operands u (an_operation o) b = by_operation u o b

by_its_kind : (u : Unit) (k : Kind) (b : List ℕ) → Held (by_kind u k b).sent
by_its_kind u (of_dump k) b = (refl, refl)
by_its_kind u (of_short k) b = by_its_operands u k.operands b
by_its_kind u unknown b = (refl, refl)

by_verdict : (u : Unit) (v : Verdict) → Held (step_by u v).sent
by_verdict u (done o b p) = by_its_kind u (kind_of o) b
by_verdict u (refused o) = (refl, refl)

by_walk : (u : Unit) (o : Option Report) → Held (step_or u o).sent
by_walk u none = (refl, refl)
by_walk u (some r) = by_verdict u r.verdict

held : (u : Unit) (s : List ℕ) (place : ℕ) → Held (stepping u s place).sent
unfolding stepping
held u s place = by_walk u (walk judge s place)

pub told_sent : (u : Unit) (s : List ℕ) (place : ℕ) → sent_by (steps u s place) ≡ (stepping u s place).sent
told_sent u s place = (held u s place).0

pub told_zeros : (u : Unit) (s : List ℕ) (place : ℕ) → let t = steps u s place in drop t.count t.sent ≡ replicate (7 - t.count) 0
told_zeros u s place = (held u s place).1
