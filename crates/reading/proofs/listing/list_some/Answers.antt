-- `list_some` lends no more of a larger room than 8 reports take.
use mathlib.Core.Path.{sym}
use Prim.Native.Nat.{◌*◌}
use native.Mathlib.Omega.{arith}
use lib.Seq.{length-take-le}
use Rattle.answers.proofs.Lists.{to_end}
use Rattle.reading.specs.code.Rooms.{width, most}
use Rattle.reading.proofs.Rooms.{fills_part, fills_whole}
use Rattle.reading.proofs.listing.list_some.Goals as goal

pub slice_bounds-list_outside-end-then-room-gt-ROOM-2 : goal.slice_bounds-list_outside-end-then-room-gt-ROOM-2
slice_bounds-list_outside-end-then-room-gt-ROOM-2 c = sym (length-take-le (most * width) c.args.room.now (omega arith))

pub returns-then-room-gt-ROOM : goal.returns-then-room-gt-ROOM
returns-then-room-gt-ROOM c =
    let a = c.args in
    fills_part a.s.now a.place a.room.now c.list_outside.new.room c.list_outside.result c.if-room-gt-ROOM.true
    (rw (to_end a.place a.s.now) at c.list_outside.ensures)

pub returns : goal.returns
returns c =
    let a = c.args in
    fills_whole a.s.now a.place a.room.now c.list_outside-2.new.room c.list_outside-2.result c.if-room-gt-ROOM.false
    (rw (to_end a.place a.s.now) at c.list_outside-2.ensures)
