-- `put_quiet` keeps, at each turn, what is not real time among the bytes passed, as much of it as fits; where the room is full, that is all.
use Prim.Native.Nat.{◌≤◌}
use lib.ListN.{take}
use Rattle.streams.specs.Bytes.{without_real_time}
use Rattle.cable.specs.code.Steps.{Kept}
use Rattle.cable.proofs.room.put_quiet.Given as goal

abbrev pub invariant-loop-b : goal.invariant-loop-b
invariant-loop-b l = record {
  few : l.n ≤ l.b-index;
  kept : Kept (without_real_time (take l.b-index l.bytes)) l.initial.out l.out l.n;
}
