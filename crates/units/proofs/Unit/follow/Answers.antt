-- `follow` leaves a message that is accepted to its kind; one that is refused, and none, changes nothing.
use mathlib.Core.Path.{◌≡◌, sym, ap, ◌∙◌}
use mathlib.Core.Bool.{true, false}
use borrow.Author.Tests.{eqb-true, eqb-false}
use Rattle.units.specs.Units.{stepping}
use Rattle.units.specs.code.Steps.{done_by}
use Rattle.units.proofs.Steps.{quiet_step, kind_step, step_told}
use Rattle.units.proofs.Unit.follow.Goals.{then-is_done, else-is_done}
use Rattle.units.proofs.Unit.follow.Goals as goal

pub returns : goal.returns
returns c =
    let a = c.args in
    let read = c.walk_with_bytes-reading.ensures in
    let answer = c.walk_with_bytes-reading.result.report.outcome.answer in
    let accepted = λ (e : c.is_done.result ≡ true). eqb-true answer 0 (sym c.is_done.ensures ∙ e) in
    let refused = λ (e : c.is_done.result ≡ false). eqb-false answer 0 (sym c.is_done.ensures ∙ e) in
    let act : done_by c.if-is_done.act ≡ stepping a.self a.s.now a.place = elim c.if-is_done.branch [
      | then-is_done w ↦ ap done_by w.act-is ∙ w.takes-act.ensures ∙ kind_step _ _ _ _ _ read w.kind_of.ensures (accepted w.if-is_done.true)
      | else-is_done w ↦ ap done_by w.act-is ∙ w.stays-act.ensures ∙ quiet_step _ _ _ _ read (refused w.if-is_done.false)
    ] in
    c.step.ensures ∙ step_told _ _ _ _ _ read act
