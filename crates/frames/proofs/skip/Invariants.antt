-- `skip` passes block after block that passes.
use Rattle.std.proofs.Common.{◌*◌, true, take}
use Rattle.std.specs.List.{All}
use Rattle.frames.proofs.skip.Given as goal

abbrev pub invariant-loop-i : goal.invariant-loop-i
invariant-loop-i g l = All (λ b. goal.F-post g l.passes b true) (take (16 * l.i) l.bytes)
