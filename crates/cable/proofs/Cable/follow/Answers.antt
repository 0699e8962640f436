-- By how the message ends, what a call gives from inside it.
use Rattle.std.proofs.Common.{refl}
use Rattle.cable.specs.Cable.{cleared}
use Rattle.cable.proofs.Steps.{follow_broken, follow_open, follow_closed}
use Rattle.cable.proofs.Cable.follow.Goals as goal

pub returns-in-Interrupted : goal.returns-in-Interrupted
unfolding cleared
returns-in-Interrupted c =
    rw (c.ended.ensures.state, c.ended.ensures.fed, c.min.ensures)
    (follow_broken _ c.requires.inside c.requires.before_end _ _ c.find_end-span.ensures _ _ refl refl c.in-Interrupted.is)

pub returns-in-Cut : goal.returns-in-Cut
returns-in-Cut c =
    rw (c.append.ensures.state, c.min.ensures, c.no_report.ensures)
    (follow_open _ c.requires.inside c.requires.before_end _ _ c.find_end-span.ensures c.in-Cut.is)

pub returns-in-Whole : goal.returns-in-Whole
unfolding cleared
returns-in-Whole c =
    rw (c.ended-in-Whole.ensures.state, c.ended-in-Whole.ensures.fed, c.append-in-Whole.ensures.state, c.min.ensures)
    (follow_closed _ c.requires.inside c.requires.before_end _ _ c.find_end-span.ensures _ _
    (rw c.append-in-Whole.ensures.state at c.record_kept-judged.ensures) c.in-Whole.is)
