-- Each arm is that of `extended`.
use borrow.Author.Tests.{lt-ltb, le-ltb}
use Rattle.edits.specs.Edits.{extended}
use Rattle.edits.proofs.extend.Goals as goal

pub returns-then-v-lt64 : goal.returns-then-v-lt64
unfolding extended
returns-then-v-lt64 c = simp (lt-ltb _ _ c.if-v-lt64.true)

pub returns : goal.returns
unfolding extended
returns c = simp (le-ltb _ _ c.if-v-lt64.false)
