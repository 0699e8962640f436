-- `last_place` goes back over real time: what is left up to the place at hand is all that is left.
-- One place further to the front.
use Rattle.judging.proofs.Places.{UpTo}
use Rattle.judging.proofs.content.last_place.Given as goal

abbrev pub invariant-loop-last : goal.invariant-loop-last
invariant-loop-last l = UpTo l.body l.last

abbrev pub decreases-loop-last : goal.decreases-loop-last
decreases-loop-last l = l.last
