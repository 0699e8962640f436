use Rattle.std.proofs.Common.{rules}
use Rattle.patch.specs.Patch.{half_used}
use Rattle.patch.proofs.half_used.Goals as goal

pub returns : goal.returns
unfolding half_used
returns c = search rules
