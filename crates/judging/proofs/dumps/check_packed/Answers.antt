-- A patch is checked by its own numbers, and other bytes by their count.
use Rattle.std.proofs.Common.{◌≡◌, ◌≤◌, List, ℕ, length, take, replicate, sym, ◌∙◌, ap, arith, length-take-le}
use Rattle.judging.proofs.dumps.check_packed.Goals.{After-size, Then-is_plain_patch}
use Rattle.judging.proofs.dumps.check_packed.Goals as goal

long : (c : Then-is_plain_patch) → length c.args.content.body.now ≡ 273
long c =
    let plain = c.is_plain_patch.ensures c.if-is_plain_patch.true in
    sym (ap length plain.1) ∙ (rw plain.0 at c.requires.0)

pub returns-then-is_plain_patch : goal.returns-then-is_plain_patch
returns-then-is_plain_patch c =
    let plain = c.is_plain_patch.ensures c.if-is_plain_patch.true in
    rw (plain.1, plain.0) c.check_patch.ensures

-- Other bytes, by their count.
small : (c : After-size) → c.size.result ≤ 172
small c = rw c.size.ensures c.requires.1

abbrev zeros : List ℕ
zeros = replicate 172 0

room_of : (c : After-size) → length (take c.size.result zeros) ≡ c.size.result
room_of c = length-take-le c.size.result zeros (small c)

pub slice_bounds-check_room-end : goal.slice_bounds-check_room-end
slice_bounds-check_room-end c = sym (room_of (goal.at.slice_bounds-check_room-end c).After-size)

pub check_room-requires : goal.check_room-requires
check_room-requires c = (c.requires.0, rw (room_of (goal.at.check_room-requires c).After-size) c.size.ensures)

pub slice_bounds-check_patch-end : goal.slice_bounds-check_patch-end
slice_bounds-check_patch-end c = omega (arith, long (goal.at.slice_bounds-check_patch-end c).Then-is_plain_patch)

pub bounds-body-272 : goal.bounds-body-272
bounds-body-272 c = omega (arith, long (goal.at.bounds-body-272 c).Then-is_plain_patch)

pub slice_bounds-room-end-2 : goal.slice_bounds-room-end-2
slice_bounds-room-end-2 c = omega (arith, small c)
