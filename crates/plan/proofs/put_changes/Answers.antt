use Rattle.std.proofs.Common.{◌∙◌, ap}
use Rattle.text.proofs.Puts.{put_on, put_whole}
use Rattle.planner.specs.code.Parts.{left}
use Rattle.plan.specs.Said.{lines_for}
use Rattle.plan.proofs.Lines.{first_line, no_lines, all_lines_for}
use Rattle.plan.proofs.put_changes.Goals as goal

pub loop-part-init : goal.loop-part-init
loop-part-init c =
    let a = c.args.a.now in
    let b = c.args.b.now in
    let all = ap (lines_for a b) (ap left c.into_iter-part-iterator.ensures.into_iter_gives ∙ c.of-part-items.ensures) ∙ all_lines_for a b in
    (tt, tt, λ new g. rw all at g)

pub loop-part-preserved : goal.loop-part-preserved
loop-part-preserved c =
    let first = ap (lines_for c.args.a.now c.args.b.now) c.in-Some.ensures.steps ∙ first_line _ _ _ _ in
    (tt, tt, put_on first c.loop-part.invariant.2 c.put_change.ensures)

pub returns : goal.returns
returns c =
    let none = ap (lines_for c.args.a.now c.args.b.now) c.in-None.ensures.steps.0 ∙ no_lines _ _ in
    put_whole none c.loop-part.invariant.2
