-- What stands before the first F0H is passed over, and then, by how the message there ends, what a call gives.
use Rattle.cable.proofs.Steps.{seek_none, seek_broken, seek_closed, seek_open}
use Rattle.cable.proofs.Cable.seek.Goals as goal

pub returns-then-input-i : goal.returns-then-input-i
returns-then-input-i c =
    rw (c.at_rest.ensures, c.no_report.ensures)
    (seek_none c.args.self.now c.requires.outside _ _ c.find_start-i.ensures c.if-input-i.true)

pub returns-in-Cut : goal.returns-in-Cut
returns-in-Cut c =
    rw (c.append.ensures.state, c.no_report-in-Cut.ensures, c.at_rest.ensures)
    (seek_open c.args.self.now c.requires.outside _ _ c.find_start-i.ensures c.if-input-i.false _ _
    (rw c.at_rest.ensures at c.record_from-heard.ensures) c.in-Cut.is)

pub returns-in-Whole : goal.returns-in-Whole
returns-in-Whole c =
    rw (c.ended.ensures.state, c.ended.ensures.fed)
    (seek_closed c.args.self.now c.requires.outside _ _ c.find_start-i.ensures c.if-input-i.false _ _
    (rw c.at_rest.ensures at c.record_from-heard.ensures) c.in-Whole.is)

pub returns-in-Interrupted : goal.returns-in-Interrupted
returns-in-Interrupted c =
    rw (c.ended-in-Interrupted.ensures.state, c.ended-in-Interrupted.ensures.fed)
    (seek_broken c.args.self.now c.requires.outside _ _ c.find_start-i.ensures c.if-input-i.false _ _
    (rw c.at_rest.ensures at c.record_from-heard.ensures) c.in-Interrupted.is)
