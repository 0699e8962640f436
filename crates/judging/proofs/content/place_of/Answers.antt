use Rattle.std.proofs.Common.{◌≡◌, arith}
use Rattle.judging.proofs.Places.{stands_first, stands_next, stands_front}
use Rattle.judging.proofs.content.place_of.Goals as goal

pub returns-then-front_quiet : goal.returns-then-front_quiet
returns-then-front_quiet c = stands_front c.args.body.now (c.front_quiet.ensures c.if-front_quiet.true) c.args.i c.if-i-lt-FRONT.true

pub loop-init : goal.loop-init
loop-init c = rw c.past_real_time-at.ensures (stands_first c.args.body.now (omega (arith, c.requires)))

pub overflow_add-at : goal.overflow_add-at
overflow_add-at c = omega (arith, c.loop.invariant.within, c.well_formed)

pub loop-preserved : goal.loop-preserved
loop-preserved c =
    let at = c.loop in
    rw c.past_real_time-at-in-loop.ensures (stands_next c.args.body.now at.counter at.at at.invariant (omega (arith, c.requires)))

pub returns : goal.returns
returns c = let last : c.loop.counter ≡ c.args.i = omega arith in rw last at c.loop.invariant
