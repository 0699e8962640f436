use Prim.Native.Nat.{◌+◌, ◌*◌, ◌<◌, ◌≤◌}
use native.Mathlib.Omega.{arith}
use lib.ListN.{length, get_or}
use Rattle.frames.proofs.RealTime.{past_least}
use Rattle.judging.specs.code.Content.{StandsAt}
use Rattle.judging.proofs.Gathering.{both_narrow, begun, two_more, noise_passed, low_wide, second, high_wide, packed_on, pair_on, gathered}
use Rattle.judging.proofs.content.gather.Goals.{After-past_real_time-next, In-loop-k, Then-low-high-lt16}
use Rattle.judging.proofs.content.gather.Goals as goal

pub loop-k-init : goal.loop-k-init
loop-k-init c =
    begun c.args.body.now c.args.packed.now c.requires c.place_of-at.result c.place_of-at.ensures

-- In a turn there is room for a byte, and two places are left.

room : (i : In-loop-k) → i.loop-k.k < length i.args.packed.now
room i = omega (arith, i.loop-k.invariant.copied.1, i.loop-k-test.true)

places : (i : In-loop-k) → i.loop-k.at + 1 < length i.args.body.now
places i =
    two_more i.args.body.now i.args.packed.now i.requires i.loop-k.packed i.loop-k.at i.loop-k.k i.loop-k.invariant (room i)

-- Two bytes that pass together are narrow.

narrow : (t : Then-low-high-lt16) →
    let b = t.args.body.now in
    (get_or b t.loop-k.at 0 ≤ 15) × (get_or b (t.loop-k.at + 1) 0 ≤ 15)
narrow t =
    let b = t.args.body.now in
    both_narrow (get_or b t.loop-k.at 0) (get_or b (t.loop-k.at + 1) 0) t.if-low-high-lt16.true

pub loop-k-preserved-then-low-high-lt16 : goal.loop-k-preserved-then-low-high-lt16
loop-k-preserved-then-low-high-lt16 c =
    pair_on c.args.body.now c.args.packed.now c.requires c.loop-k.packed c.loop-k.at c.loop-k.k c.loop-k.invariant (room (goal.at.loop-k-preserved-then-low-high-lt16 c).In-loop-k)
    c.if-low-high-lt16.true

pub loop-k-preserved-then-low-gt-END : goal.loop-k-preserved-then-low-gt-END
loop-k-preserved-then-low-gt-END c =
    noise_passed c.args.body.now c.args.packed.now c.requires c.loop-k.packed c.loop-k.at c.loop-k.k c.loop-k.invariant (room (goal.at.loop-k-preserved-then-low-gt-END c).In-loop-k)
    c.if-low-gt-END.true

pub returns-then-low-gt15 : goal.returns-then-low-gt15
returns-then-low-gt15 c =
    low_wide c.args.body.now c.args.packed.now c.requires c.loop-k.packed c.loop-k.at c.loop-k.k c.loop-k.invariant (room (goal.at.returns-then-low-gt15 c).In-loop-k)
    c.if-low-gt-END.false c.if-low-gt15.true

-- Where the pair's second nibble stands.

found : (p : After-past_real_time-next) →
    (h1 : p.loop-k.k < length p.args.packed.now) → StandsAt p.args.body.now (4 + 2 * p.loop-k.k + 1) p.past_real_time-next.result
found p h1 =
    rw p.past_real_time-next.ensures
    (second p.args.body.now p.args.packed.now p.requires p.loop-k.packed p.loop-k.at p.loop-k.k p.loop-k.invariant h1
    p.if-low-gt-END.false)

further : (p : After-past_real_time-next) → p.loop-k.at < p.past_real_time-next.result
further p =
    omega (arith, p.past_real_time-next.ensures, past_least p.args.body.now (p.loop-k.at + 1))

pub returns-then-second-gt15 : goal.returns-then-second-gt15
returns-then-second-gt15 c =
    let s = (goal.at.returns-then-second-gt15 c).In-loop-k in
    high_wide c.args.body.now c.args.packed.now c.requires c.loop-k.packed c.loop-k.at c.loop-k.k c.loop-k.invariant (room s)
    c.if-low-gt-END.false c.if-low-gt15.false c.past_real_time-next.result (found (goal.at.returns-then-second-gt15 c).After-past_real_time-next (room s)) c.if-second-gt15.true

pub loop-k-preserved : goal.loop-k-preserved
loop-k-preserved c =
    let s = (goal.at.loop-k-preserved c).In-loop-k in
    packed_on c.args.body.now c.args.packed.now c.requires c.loop-k.packed c.loop-k.at c.loop-k.k c.loop-k.invariant (room s)
    c.if-low-gt-END.false c.if-low-gt15.false c.past_real_time-next.result (found (goal.at.loop-k-preserved c).After-past_real_time-next (room s)) c.if-second-gt15.false

pub returns : goal.returns
returns c =
    gathered c.args.body.now c.args.packed.now c.requires c.loop-k.packed c.loop-k.at c.loop-k.k c.loop-k.invariant
    (omega (arith, c.loop-k.invariant.copied.1, c.loop-k-test.false))

pub place_of-at-requires : goal.place_of-at-requires
place_of-at-requires c = omega (arith, c.requires)

pub overflow_add-at : goal.overflow_add-at
overflow_add-at c = omega (arith, c.place_of-at.ensures.within)

pub bounds-body-at : goal.bounds-body-at
bounds-body-at c = omega (arith, places (goal.at.bounds-body-at c).In-loop-k)

pub overflow_add-high : goal.overflow_add-high
overflow_add-high c = omega (arith, places (goal.at.overflow_add-high c).In-loop-k)

pub bounds-body-at-in-loop-k : goal.bounds-body-at-in-loop-k
bounds-body-at-in-loop-k c = places (goal.at.bounds-body-at-in-loop-k c).In-loop-k

pub overflow_mul-packed : goal.overflow_mul-packed
overflow_mul-packed c = omega (arith, (narrow c).0, (narrow c).1)

pub overflow_add-packed : goal.overflow_add-packed
overflow_add-packed c = omega (arith, (narrow c).0, (narrow c).1)

pub overflow_add-at-then-low-high-lt16 : goal.overflow_add-at-then-low-high-lt16
overflow_add-at-then-low-high-lt16 c = omega (arith, places (goal.at.overflow_add-at-then-low-high-lt16 c).In-loop-k)

pub loop-k-smaller-then-low-high-lt16 : goal.loop-k-smaller-then-low-high-lt16
loop-k-smaller-then-low-high-lt16 c = omega (arith, places (goal.at.loop-k-smaller-then-low-high-lt16 c).In-loop-k)

pub overflow_add-at-then-low-gt-END : goal.overflow_add-at-then-low-gt-END
overflow_add-at-then-low-gt-END c = omega (arith, places (goal.at.overflow_add-at-then-low-gt-END c).In-loop-k)

pub loop-k-smaller-then-low-gt-END : goal.loop-k-smaller-then-low-gt-END
loop-k-smaller-then-low-gt-END c = omega (arith, places (goal.at.loop-k-smaller-then-low-gt-END c).In-loop-k)

pub shape_of-packed-then-low-gt15 : goal.shape_of-packed-then-low-gt15
shape_of-packed-then-low-gt15 c = c.loop-k.invariant.copied.1

pub overflow_add-at-else-low-gt-END : goal.overflow_add-at-else-low-gt-END
overflow_add-at-else-low-gt-END c = omega (arith, places (goal.at.overflow_add-at-else-low-gt-END c).In-loop-k)

pub bounds-body-next : goal.bounds-body-next
bounds-body-next c = (found (goal.at.bounds-body-next c).After-past_real_time-next (room (goal.at.bounds-body-next c).In-loop-k)).within

pub shape_of-packed-then-second-gt15 : goal.shape_of-packed-then-second-gt15
shape_of-packed-then-second-gt15 c = c.loop-k.invariant.copied.1

pub overflow_add-at-else-low-gt-END-2 : goal.overflow_add-at-else-low-gt-END-2
overflow_add-at-else-low-gt-END-2 c = omega (arith, (found (goal.at.overflow_add-at-else-low-gt-END-2 c).After-past_real_time-next (room (goal.at.overflow_add-at-else-low-gt-END-2 c).In-loop-k)).within)

pub loop-k-smaller : goal.loop-k-smaller
loop-k-smaller c =
    let s = (goal.at.loop-k-smaller c).After-past_real_time-next in
    omega (arith, (found s (room (goal.at.loop-k-smaller c).In-loop-k)).within, further s)

pub shape_of-packed : goal.shape_of-packed
shape_of-packed c = c.loop-k.invariant.copied.1
