-- `find_start_from` counts from a place on; past the end there is nothing to count.
use Rattle.std.proofs.Common.{◌≡◌, drop, sym, arith, length-drop}
use Rattle.answers.proofs.Lists.{to_end}
use Rattle.frames.specs.code.Extent.{ahead, start_at}
use Rattle.frames.proofs.Extent.{ahead_within, start_past}
use Rattle.frames.proofs.find_start_from.Goals.{After-find_start}
use Rattle.frames.proofs.find_start_from.Goals as goal

pub returns-then-s-place : goal.returns-then-s-place
returns-then-s-place c = sym (start_past c.args.s.now c.args.place c.if-s-place.true)

-- What `find_start` counted in the part from the place on.

counted : (c : After-find_start)
    → c.find_start.result ≡ ahead (drop c.args.place c.args.s.now)
counted c = let start = c.before.before.before.before in rw (to_end start.args.place start.args.s.now) at c.find_start.ensures

pub overflow_add-result : goal.overflow_add-result
overflow_add-result c =
    let start = c.before.before.before.before in
    let t = drop start.args.place start.args.s.now in
    omega (arith, counted c, ahead_within t, length-drop start.args.place start.args.s.now, start.well_formed)

pub returns : goal.returns
unfolding start_at
returns c = rw (counted c)
