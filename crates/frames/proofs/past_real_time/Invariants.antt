-- Over real time what is left to pass is the same count from the index on.
use Rattle.std.proofs.Common.{◌≡◌, ◌+◌, drop}
use Rattle.frames.specs.code.Extent.{real_time_ahead, past_real_time}
use Rattle.frames.proofs.past_real_time.Given as goal

abbrev pub invariant-loop-i : goal.invariant-loop-i
invariant-loop-i l = past_real_time l.bytes l.place ≡ l.i + real_time_ahead (drop l.i l.bytes)
