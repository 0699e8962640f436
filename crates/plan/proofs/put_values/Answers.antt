-- The amount and the destination stand one and two places behind the source.
use Rattle.std.proofs.Common.{◌≡◌, ◌+◌, ◌*◌, arith}
use Rattle.text.proofs.Puts.{gains_then}
use Rattle.plan.proofs.put_values.Goals as goal

pub returns : goal.returns
returns c =
    let amount : 104 + 3 * c.args.bus + 1 ≡ 105 + 3 * c.args.bus = omega arith in
    let destination : 104 + 3 * c.args.bus + 2 ≡ 106 + 3 * c.args.bus = omega arith in
    gains_then c.put_value.ensures
    (gains_then (rw amount at c.put_value-2.ensures) (rw destination at c.put_value-3.ensures))
