-- `test` is done where the pass over a split's rows sees none out of range, and else leaves it to them.
use mathlib.Core.Path.{sym, ◌∙◌}
use Rattle.ranges.proofs.Found.{all_pass}
use Rattle.splits.specs.Splits.{split_fields}
use Rattle.splits.proofs.test.Goals as goal

pub returns-then-all_in : goal.returns-then-all_in
unfolding split_fields
returns-then-all_in c =
    let p = c.args.p.now in
    all_pass 18 split_fields p (sym c.all_in.ensures ∙ c.if-all_in.true)
