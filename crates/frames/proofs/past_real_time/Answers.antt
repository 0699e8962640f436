use Rattle.std.proofs.Common.{refl, sym, arith}
use Rattle.frames.specs.code.Extent.{past_real_time}
use Rattle.frames.proofs.RealTime.{past_more, past_found, past_end}
use Rattle.frames.proofs.past_real_time.Goals as goal

pub returns-then-bytes-place : goal.returns-then-bytes-place
returns-then-bytes-place c = sym (past_end c.args.bytes.now c.args.place c.if-bytes-place.true)

pub loop-i-init : goal.loop-i-init
unfolding past_real_time
loop-i-init c = refl

pub returns-then-bytes-i-le-END : goal.returns-then-bytes-i-le-END
returns-then-bytes-i-le-END c =
    omega (arith, c.loop-i.invariant, past_found c.args.bytes.now c.loop-i.i c.loop-i-test.true c.if-bytes-i-le-END.true)

pub loop-i-preserved : goal.loop-i-preserved
loop-i-preserved c =
    omega (arith, c.loop-i.invariant, past_more c.args.bytes.now c.loop-i.i c.loop-i-test.true (omega (arith, c.if-bytes-i-le-END.false)))

pub returns : goal.returns
unfolding past_real_time
returns c =
    omega (arith, c.loop-i.invariant, c.loop-i.auto.i, past_end c.args.bytes.now c.loop-i.i c.loop-i-test.false)
