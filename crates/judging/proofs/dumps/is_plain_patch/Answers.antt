-- `true` stands in the arm of a patch alone.
use Rattle.judging.proofs.dumps.is_plain_patch.Goals as goal

pub returns-in-Patch : goal.returns-in-Patch
returns-in-Patch c = λ e. (c.in-Patch.is, c.is_whole.ensures e)
