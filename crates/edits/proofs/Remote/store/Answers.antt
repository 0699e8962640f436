-- Refused by its own tests, or left to the patch's length.
use mathlib.Core.List.{[], ◌∷◌}
use mathlib.Core.Path.{refl, sym}
use borrow.Author.Tests.{ne_eqb}
use Rattle.answers.proofs.Refusals.{never_done}
use Rattle.patch.specs.Patch.{length_row}
use Rattle.edits.specs.code.Storing.{storing}
use Rattle.edits.proofs.Tests.{judged_refused, judged_passed, edit_refusals}
use Rattle.edits.proofs.Remote.store.Goals as goal

pub returns-in-Ok : goal.returns-in-Ok
unfolding storing
returns-in-Ok c =
    let a = c.args in
    let refuses = edit_refusals a.self.parameter.0 a.self.value in
    rw (judged_passed _ _ (length_row a.p.now ∷ []) a.p.now c.in-Ok.byte refuses c.in-Ok.ensures) c.store.ensures

pub returns-in-Err : goal.returns-in-Err
unfolding storing
returns-in-Err c =
    rw (judged_refused _ _ (length_row c.args.p.now ∷ []) c.args.p.now c.in-Err.field-0 c.in-Err.ensures)
    (record { told = sym (ne_eqb _ 0 (never_done c.in-Err.field-0)); lent = refl })
