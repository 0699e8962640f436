-- The flag is set at a byte out of its range: where it stays clear, each byte passed lies in its range.
use Rattle.std.proofs.Common.{◌≡◌, false}
use Rattle.ranges.specs.code.Passes.{InRows}
use Rattle.fields.specs.Fields.{fields}
use Rattle.patch.proofs.all_in_range.Given as goal

abbrev pub invariant-loop-k : goal.invariant-loop-k
invariant-loop-k l = l.out ≡ false → InRows fields 0 l.k l.p

abbrev pub invariant-loop-k-2 : goal.invariant-loop-k-2
invariant-loop-k-2 l = l.out ≡ false → InRows fields 0 128 l.p × InRows fields 118 l.k l.p
