-- A place before 104 has a parameter.
use Rattle.std.proofs.Common.{arith}
use borrow.Author.Tests.{lt-ltb}
use Rattle.edit_lists.proofs.Left.{found_number, found_some}
use Rattle.planner.proofs.put_edit.Goals as goal

pub returns-in-Some : goal.returns-in-Some
returns-in-Some c =
    let k = c.args.part.place in
    let f = c.parameter_of in
    let n = found_number k f.result f.ensures (omega arith) c.if-k-lt-SOURCE_AT.true c.in-Some.parameter c.in-Some.is in
    rw (lt-ltb k 104 c.if-k-lt-SOURCE_AT.true) (rw n at c.put_message.ensures)

pub returns-in_default : goal.returns-in_default
returns-in_default c =
    let f = c.parameter_of in
    absurd (found_some c.args.part.place f.result f.ensures (omega arith) c.if-k-lt-SOURCE_AT.true c.in_default.is)
