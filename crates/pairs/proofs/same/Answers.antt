use Rattle.std.proofs.Common.{◌∙◌}
use Rattle.pairs.proofs.Equal.{same_pointwise}
use Rattle.pairs.proofs.same.Goals as goal

pub returns : goal.returns
returns c = c.eq.ensures ∙ same_pointwise _ _
