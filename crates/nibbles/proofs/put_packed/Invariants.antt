-- The output is the packed bytes of the pairs passed, then its old bytes.
use Rattle.std.proofs.Common.{◌*◌, ◌/◌, length, take}
use Rattle.answers.proofs.Copied.{Copied}
use Rattle.nibbles.specs.Nibbles.{pack}
use Rattle.nibbles.proofs.put_packed.Given as goal

abbrev pub invariant-loop-i : goal.invariant-loop-i
invariant-loop-i l = Copied (λ i. pack (take (2 * i) l.sent)) (length l.sent / 2) l.initial.out l.out l.i
