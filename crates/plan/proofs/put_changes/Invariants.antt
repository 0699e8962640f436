-- Whoever puts the lines for the parts that are left has put all of them.
use Rattle.text.proofs.Puts.{Underway}
use Rattle.planner.specs.code.Parts.{left}
use Rattle.plan.specs.Said.{lines_for, change_lines}
use Rattle.plan.proofs.put_changes.Given as goal

abbrev pub invariant-loop-part : goal.invariant-loop-part
invariant-loop-part l =
    (goal.iterator-loop-part).can_next l.part-iterator ×
    (goal.iterator-loop-part).is_finite l.part-iterator ×
    Underway (change_lines l.a l.b) (lines_for l.a l.b (left l.part-iterator)) l.initial.text l.text
