-- The flag falls at a byte out of range: at the end it tells whether there is none.
use Rattle.ranges.proofs.Passes.{Seen}
use Rattle.ranges.proofs.all_in.Given as goal

abbrev pub invariant-loop-k : goal.invariant-loop-k
invariant-loop-k l = Seen l.table l.bytes l.all l.k
