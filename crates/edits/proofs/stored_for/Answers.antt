-- Each arm is that of `stored_for`.
use borrow.Author.Tests.{eq-eqb, ne_eqb}
use Rattle.edits.specs.Edits.{stored_for}
use Rattle.edits.proofs.stored_for.Goals as goal

pub returns-then-parameter-eq-NOT_EXTENDED : goal.returns-then-parameter-eq-NOT_EXTENDED
unfolding stored_for
returns-then-parameter-eq-NOT_EXTENDED c = simp (eq-eqb _ _ c.if-parameter-eq-NOT_EXTENDED.true)

pub returns : goal.returns
unfolding stored_for
returns c = simp (ne_eqb _ _ c.if-parameter-eq-NOT_EXTENDED.false) c.extend.ensures
