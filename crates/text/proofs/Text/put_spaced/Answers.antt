use native.Mathlib.Omega.{arith}
use Rattle.text.specs.Text.{spaced}
use Rattle.text.proofs.Puts.{gains_none, gains_then}
use Rattle.text.proofs.Spaced.{spaced_more}
use Rattle.text.proofs.Text.put_spaced.Goals as goal

pub loop-n-init : goal.loop-n-init
unfolding spaced
loop-n-init c = gains_none c.args.self.now

pub loop-n-preserved : goal.loop-n-preserved
loop-n-preserved c =
    let l = c.loop-n in
    rw (spaced_more c.args.numbers.now l.n-index (omega arith)) (gains_then l.invariant c.put_number.ensures)
