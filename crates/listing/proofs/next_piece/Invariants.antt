-- What the steps so far have put. The measure is how many calls may follow.
use Rattle.listing.specs.code.Pieces.{calls_left}
use Rattle.listing.proofs.Steps.{SoFar}
use Rattle.listing.proofs.next_piece.Given as goal

abbrev pub invariant-loop-text : goal.invariant-loop-text
invariant-loop-text l = SoFar l.s l.initial.rest l.initial.text l.text l.rest

abbrev pub decreases-loop-text : goal.decreases-loop-text
decreases-loop-text l = calls_left l.s l.rest
