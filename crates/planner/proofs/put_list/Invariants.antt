-- Message after message is written, each into the part that starts behind those written. The invariant: what is written, and the edits for the parts
-- that are left, are the list.
use Rattle.std.proofs.Common.{◌≡◌, length}
use Rattle.edit_lists.specs.Lists.{list_bytes}
use Rattle.edit_lists.specs.Plan.{plan}
use Rattle.planner.specs.code.Parts.{left}
use Rattle.planner.proofs.Edits.{edits_for}
use Rattle.planner.proofs.Writing.{Writing}
use Rattle.planner.proofs.put_list.Given as goal

abbrev pub invariant-loop-part : goal.invariant-loop-part
invariant-loop-part l =
    (goal.iterator-loop-part).can_next l.part-iterator ×
    (goal.iterator-loop-part).is_finite l.part-iterator ×
    (length l.out ≡ length l.initial.out) ×
    Writing (list_bytes (plan l.a l.b)) l.initial.out l.at (edits_for l.b (left l.part-iterator)) l.out
