-- What reading leaves is the patch.
use Rattle.plan.specs.Files.{patch_in}
use Rattle.plan.proofs.patch_in.Goals as goal

pub returns : goal.returns
unfolding patch_in
returns c = c.read.ensures.lent
