-- Each return is a case of `sentence`.
use Rattle.text.specs.Text.{ascii}
use Rattle.text.proofs.Puts.{gains_then}
use Rattle.plan.specs.Files.{sentence}
use Rattle.plan.proofs.put_wrong.Goals as goal

pub returns-in-TooLong : goal.returns-in-TooLong
unfolding sentence
returns-in-TooLong c = rw c.in-TooLong.is c.put_too_long.ensures

pub returns-in-NoPatch : goal.returns-in-NoPatch
unfolding sentence ascii
returns-in-NoPatch c = rw c.in-NoPatch.is c.put.ensures

pub returns-in-NotOne : goal.returns-in-NotOne
unfolding sentence ascii
returns-in-NotOne c = rw c.in-NotOne.is (gains_then c.put-in-NotOne.ensures c.put_report.ensures)

pub returns-in-Outside : goal.returns-in-Outside
unfolding sentence ascii
returns-in-Outside c = rw c.in-Outside.is c.put-in-Outside.ensures
