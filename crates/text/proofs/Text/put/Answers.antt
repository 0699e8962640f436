use native.Mathlib.Omega.{arith}
use Rattle.std.proofs.lemmas.List.{take_more}
use Rattle.text.proofs.Puts.{gains_then}
use Rattle.text.proofs.Text.put.Goals as goal

pub loop-b-preserved : goal.loop-b-preserved
loop-b-preserved c =
    let l = c.loop-b in
    rw (take_more c.args.bytes.now l.b-index 0 (omega arith)) (gains_then l.invariant c.put_byte.ensures)
