-- Where none of the bytes so far ends a message, the sum of their quotients is the real time among them.
use Rattle.std.proofs.Common.{◌≡◌, ◌≤◌, take}
use Rattle.std.specs.List.{All}
use Rattle.streams.specs.Bytes.{real_time_in}
use Rattle.frames.specs.code.Blocks.{Goes}
use Rattle.frames.proofs.noise_in.Given as goal

abbrev pub invariant-loop-b : goal.invariant-loop-b
invariant-loop-b l = (l.n ≤ l.b-index) × (All Goes (take l.b-index l.block) → l.n ≡ real_time_in (take l.b-index l.block))
