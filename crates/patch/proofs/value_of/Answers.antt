-- The lookup, then the patch's tests; done, the value of the byte at the parameter's place.
use Rattle.std.proofs.Common.{sym, arith, to_z-of_z}
use Rattle.std.proofs.lemmas.Result.{err_from_is_err_and}
use Rattle.answers.specs.Refusals.{outcome_by}
use Rattle.answers.proofs.Refusals.{never_done, done_silent}
use Rattle.fields.proofs.Places.{place_refused, place_given}
use Rattle.fields.proofs.Rules.{place_is_found}
use Rattle.patch.specs.Patch.{patch_rows}
use Rattle.patch.proofs.Tests.{patch_refusals, patch_length}
use Rattle.patch.proofs.Parameters.{held_nowhere, held_refused, held_done}
use Rattle.patch.proofs.value_of.Goals as goal

pub returns-in_err-place : goal.returns-in_err-place
returns-in_err-place c =
    let p = err_from_is_err_and c.from_residual.result c.from_residual.ensures.1 in
    let nowhere = place_refused _ _ _ c.place_of.ensures c.ok_or.ensures.value _ c.in_err-place.was in
    rw (p.1, p.2, nowhere.1) (sym (held_nowhere c.args.parameter.0 c.args.p.now nowhere.0))

pub returns-in_err-test : goal.returns-in_err-test
returns-in_err-test c =
    let p = err_from_is_err_and c.from_residual-in_err-test.result c.from_residual-in_err-test.ensures.1 in
    let there = place_given _ _ _ c.place_of.ensures c.ok_or.ensures.value _ c.in_ok-place.was in
    let refusal = c.in_err-test.field-0.0 in
    rw (p.1, p.2)
    (sym (held_refused c.args.parameter.0 c.args.p.now c.in_ok-place.place.0 there (outcome_by refusal) c.in_err-test.ensures (never_done refusal)))

pub bounds-p-at : goal.bounds-p-at
bounds-p-at c =
    let p = c.args.p.now in
    let there = place_given _ _ _ c.place_of.ensures c.ok_or.ensures.value _ c.in_ok-place.was in
    omega (
      arith,
      place_is_found c.args.parameter.0 c.in_ok-place.place.0 there,
      patch_length p (done_silent (patch_rows p) 0 (patch_refusals p) c.in_ok-test.ensures),
    )

pub returns : goal.returns
returns c =
    let p = c.args.p.now in
    let there = place_given _ _ _ c.place_of.ensures c.ok_or.ensures.value _ c.in_ok-place.was in
    rw (to_z-of_z (record { sfits = c.value_at.type_inv }), c.value_at.ensures)
    (sym (held_done c.args.parameter.0 p c.in_ok-place.place.0 there (done_silent (patch_rows p) 0 (patch_refusals p) c.in_ok-test.ensures)))
