-- Refused by its own tests, or left to those of the patch.
use mathlib.Core.Path.{refl}
use Rattle.std.proofs.lemmas.Result.{err_from_is_err_and}
use Rattle.patch.specs.Patch.{patch_rows}
use Rattle.edits.specs.Edits.{applying_bus}
use Rattle.edits.proofs.Tests.{judged_refused, judged_passed, bus_refusals}
use Rattle.edits.proofs.Matrix.apply.Goals as goal

pub returns-in_err-change : goal.returns-in_err-change
unfolding applying_bus
returns-in_err-change c =
    let p = err_from_is_err_and c.from_residual.result c.from_residual.ensures.1 in
    rw (p.1, p.2, judged_refused _ _ (patch_rows c.args.p.now) c.args.p.now c.in_err-change.field-0.0 c.in_err-change.ensures)
    (record { result = refl; lent = refl })

pub returns : goal.returns
unfolding applying_bus
returns c =
    let a = c.args in
    let refuses = bus_refusals a.self.bus a.self.source a.self.amount a.self.destination in
    rw (judged_passed _ _ (patch_rows a.p.now) a.p.now c.in_ok-change.field-0 refuses c.in_ok-change.ensures) c.apply.ensures
