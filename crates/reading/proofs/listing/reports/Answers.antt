-- `reports` makes the reports from the place on, and goes on from the end of the last.
use Prim.Native.Nat.{◌*◌, ◌≤◌}
use native.Mathlib.Omega.{arith}
use lib.ListN.{length}
use Rattle.reading.specs.code.Rooms.{width}
use Rattle.reading.proofs.Rooms.{makes_none, makes_zero, makes_some, made_fits}
use Rattle.reading.proofs.listing.reports.Goals.{Else-count-eq0}
use Rattle.reading.proofs.listing.reports.Goals as goal

pub returns-then-s-place : goal.returns-then-s-place
returns-then-s-place c = let a = c.args in makes_none a.s.now a.place a.room.now (omega arith)

pub returns-then-count-eq0 : goal.returns-then-count-eq0
returns-then-count-eq0 c =
    let a = c.args in
    makes_zero a.s.now a.place a.room.now c.list_some-count.new.room c.list_some-count.result c.list_some-count.ensures c.if-count-eq0.true

-- The numbers made are in the room.

fits : (c : Else-count-eq0)
    →
    width * c.list_some-count.result ≤ length c.args.room.now
fits c =
    let a = c.args in
    made_fits a.s.now a.place a.room.now c.list_some-count.new.room c.list_some-count.result c.list_some-count.ensures

pub overflow_mul-last : goal.overflow_mul-last
overflow_mul-last c = omega (arith, fits c, c.well_formed)

pub offset_bounds-room-last : goal.offset_bounds-room-last
offset_bounds-room-last c = omega (arith, fits c, c.well_formed)

pub bounds-room-last : goal.bounds-room-last
bounds-room-last c = omega (arith, fits (goal.at.bounds-room-last c).Else-count-eq0, c.list_some-count.auto.room, c.if-count-eq0.false)

pub returns : goal.returns
returns c =
    let a = c.args in
    let made = c.list_some-count in
    makes_some a.s.now a.place a.room.now made.new.room made.result made.ensures c.if-count-eq0.false

pub overflow_sub-last-2 : goal.overflow_sub-last-2
overflow_sub-last-2 c = omega (arith, c.if-count-eq0.false)
