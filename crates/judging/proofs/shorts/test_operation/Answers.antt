use Rattle.std.proofs.Common.{sym, ◌∙◌}
use Rattle.judging.proofs.shorts.test_operation.Goals as goal

pub returns-then-allowed : goal.returns-then-allowed
returns-then-allowed c = rw (sym c.allowed.ensures ∙ c.if-allowed.true)

pub returns-else-allowed : goal.returns-else-allowed
returns-else-allowed c = rw (sym c.allowed.ensures ∙ c.if-allowed.false)
