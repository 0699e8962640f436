-- The lowest place out of range is that of the bytes from the one at hand on.
use Rattle.std.proofs.Common.{◌≡◌, drop}
use Rattle.ranges.specs.Ranges.{out_from}
use Rattle.ranges.proofs.first_out.Given as goal

abbrev pub invariant-loop-k : goal.invariant-loop-k
invariant-loop-k l = out_from l.table 0 l.bytes ≡ out_from l.table l.k (drop l.k l.bytes)
