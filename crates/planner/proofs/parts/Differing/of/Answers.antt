use Rattle.edit_lists.proofs.Left.{left_start}
use Rattle.planner.specs.code.Parts.{left}
use Rattle.planner.proofs.parts.Differing.of.Goals as goal

pub returns : goal.returns
unfolding left
returns c = rw left_start
