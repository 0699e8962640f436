-- Dump after dump is written, each into the part that starts at its place. The invariant: the output is the dumps of the patches
-- passed, then its old bytes.
use mathlib.Core.Path.{◌≡◌}
use mathlib.Core.List.{◌++◌}
use Prim.Native.Nat.{◌*◌}
use lib.ListN.{length, drop}
use Rattle.writing.specs.Writing.{bank_from}
use Rattle.writing.proofs.put_bank.Given as goal

abbrev pub invariant-loop-k : goal.invariant-loop-k
invariant-loop-k l = (length l.out ≡ length l.initial.out) × (l.out ≡ bank_from l.k 0 l.ps ++ drop (l.k * 275) l.initial.out)
