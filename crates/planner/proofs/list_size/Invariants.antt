-- What is counted and what is left to count are the list's length. So the count is never more than the list is long.
use Rattle.std.proofs.Common.{◌≡◌, ◌+◌, length}
use Rattle.edit_lists.specs.Lists.{list_bytes}
use Rattle.edit_lists.specs.Plan.{plan}
use Rattle.planner.specs.code.Parts.{left}
use Rattle.planner.proofs.Edits.{edits_for}
use Rattle.planner.proofs.list_size.Given as goal

abbrev pub invariant-loop-part : goal.invariant-loop-part
invariant-loop-part l =
    (goal.iterator-loop-part).can_next l.part-iterator ×
    (goal.iterator-loop-part).is_finite l.part-iterator ×
    (l.size + length (edits_for l.b (left l.part-iterator)) ≡ length (list_bytes (plan l.a l.b)))
