-- The place, the word, the parameter, which every place from 8 to 103 has, and its value in the one patch and in the other.
use Rattle.std.proofs.Common.{arith}
use Rattle.text.specs.Text.{ascii}
use Rattle.text.proofs.Puts.{gains_then}
use Rattle.edit_lists.proofs.Left.{found_number, found_some}
use Rattle.plan.proofs.put_parameter.Goals as goal

pub returns-in_default : goal.returns-in_default
returns-in_default c =
    let f = c.parameter_of in
    absurd (found_some c.args.part.place f.result f.ensures (omega arith) c.requires c.in_default.is)

pub returns : goal.returns
unfolding ascii
returns c =
    let f = c.parameter_of in
    let same = found_number c.args.part.place f.result f.ensures (omega arith) c.requires c.in-Some.parameter c.in-Some.is in
    gains_then c.put_number.ensures
    (gains_then c.put.ensures
    (gains_then (rw same at c.put_number-2.ensures) (gains_then c.put_value.ensures c.put_value-2.ensures)))
