-- The flag is set at a source whose bus is half used: where it stays clear, no bus passed is.
use Rattle.std.proofs.Common.{◌≡◌, false}
use Rattle.patch.proofs.Passes.{Whole}
use Rattle.patch.proofs.buses_whole.Given as goal

abbrev pub invariant-loop-j : goal.invariant-loop-j
invariant-loop-j l = l.half ≡ false → Whole l.j l.p
