-- A part that is passed over does not differ: what is left stays the same.
use Rattle.std.proofs.Common.{◌-◌, ◌≡◌}
use Rattle.planner.specs.code.Parts.{left}
use Rattle.planner.proofs.parts.DifferingIterator.next.Given as goal

abbrev pub invariant-loop-self : goal.invariant-loop-self
invariant-loop-self l = left l.self ≡ left l.initial.self

abbrev pub decreases-loop-self : goal.decreases-loop-self
decreases-loop-self l = 134 - l.self.at
