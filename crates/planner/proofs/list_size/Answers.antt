use Rattle.std.proofs.Common.{◌≡◌, ◌+◌, ◌∙◌, ap, arith, length, List, ℕ}
use Rattle.edit_lists.specs.code.Left.{length_at}
use Rattle.edit_lists.proofs.Left.{list_most}
use Rattle.planner.specs.code.Parts.{left}
use Rattle.planner.proofs.Edits.{edits_for, all_edits, no_edits, first_length}
use Rattle.planner.proofs.list_size.Goals.{In-Some}
use Rattle.planner.proofs.list_size.Goals as goal

longer : (i : In-Some) → length (edits_for i.args.b.now (left i.loop-part.part-iterator))
    ≡ length_at i.in-Some.part.place + length (edits_for i.args.b.now (left i.next.new.self))
longer i = rw i.in-Some.ensures.steps (first_length _ _ _ i.in-Some.part.begins)

pub loop-part-init : goal.loop-part-init
loop-part-init c =
    let all = all_edits c.args.a.now c.args.b.now in
    (tt, tt, rw (c.into_iter-part-iterator.ensures.into_iter_gives, c.of-part-items.ensures, all) (omega arith))

pub overflow_add-size : goal.overflow_add-size
overflow_add-size c =
    omega (arith, list_most c.args.a.now c.args.b.now, longer (goal.at.overflow_add-size c).In-Some)

pub loop-part-preserved : goal.loop-part-preserved
loop-part-preserved c =
    (tt, tt, omega (arith, longer (goal.at.loop-part-preserved c).In-Some))

pub returns : goal.returns
returns c =
    let b = c.args.b.now in
    let none = ap (λ (ks : List ℕ). length (edits_for b ks)) c.in-None.ensures.steps.0 ∙ ap length (no_edits b) in
    omega arith
