-- Each turn puts the nibbles of one byte, behind the nibbles of the bytes passed.
use Rattle.std.proofs.Common.{length, take}
use Rattle.answers.proofs.Copied.{Copied}
use Rattle.nibbles.specs.Nibbles.{nibbles}
use Rattle.nibbles.proofs.put_nibbles.Given as goal

abbrev pub invariant-loop-i : goal.invariant-loop-i
invariant-loop-i l = Copied (λ i. nibbles (take i l.bytes)) (length l.bytes) l.initial.out l.out l.i
