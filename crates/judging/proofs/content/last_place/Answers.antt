use Prim.Native.Nat.{◌-◌, ◌<◌}
use native.Mathlib.Omega.{arith}
use Rattle.judging.proofs.Places.{UpTo, up_to_all, up_to_less, up_to_last}
use Rattle.judging.proofs.content.last_place.Goals.{In-loop-last}
use Rattle.judging.proofs.content.last_place.Goals as goal

less : (c : In-loop-last) →
    (0 < c.loop-last.last) × UpTo c.args.body.now (c.loop-last.last - 1)
less c =
    up_to_less c.args.body.now c.requires c.loop-last.last c.loop-last.invariant c.loop-last-test.true

pub returns : goal.returns
returns c =
    up_to_last c.args.body.now c.requires c.loop-last.last c.loop-last.invariant c.loop-last-test.false

pub overflow_sub-last : goal.overflow_sub-last
overflow_sub-last c = omega (arith, (up_to_all c.args.body.now c.requires).within)

pub loop-last-init : goal.loop-last-init
loop-last-init c = up_to_all c.args.body.now c.requires

pub bounds-body-last : goal.bounds-body-last
bounds-body-last c = c.loop-last.invariant.within

pub overflow_sub-last-in-loop-last : goal.overflow_sub-last-in-loop-last
overflow_sub-last-in-loop-last c = (less c).0

pub loop-last-smaller : goal.loop-last-smaller
loop-last-smaller c = omega (arith, (less c).0)

pub loop-last-preserved : goal.loop-last-preserved
loop-last-preserved c = (less c).1
