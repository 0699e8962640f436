-- `skip_noisy` passes block after block without an end, and counts the real time in them.
use Rattle.std.proofs.Common.{◌*◌}
use Rattle.frames.specs.code.Blocks.{Onward}
use Rattle.frames.proofs.skip_noisy.Given as goal

abbrev pub invariant-loop-i : goal.invariant-loop-i
invariant-loop-i l = Onward l.rest (32 * l.i) l.noise
