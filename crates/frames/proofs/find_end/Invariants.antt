-- `find_end` goes on behind the data bytes, and then behind the blocks without an end: what is left to count is the body from there on.
use Rattle.frames.specs.code.Blocks.{Onward}
use Rattle.frames.proofs.find_end.Given as goal

abbrev pub invariant-loop-i : goal.invariant-loop-i
invariant-loop-i l = Onward l.rest l.i l.noise
