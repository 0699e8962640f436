-- The data and the sum, then the fields of the packed bytes.
use Rattle.std.proofs.Common.{◌∙◌, refl}
use Rattle.std.proofs.lemmas.Result.{err_from_is_err_and}
use Rattle.answers.proofs.Refusals.{never_done}
use Rattle.patch.proofs.Tests.{fields_tested}
use Rattle.messages.specs.declared.kinds.Packed.TheVariants.{Patch as a_patch}
use Rattle.judging.proofs.Data.{data_stopped, data_left}
use Rattle.judging.proofs.dumps.check_patch.Goals as goal

pub returns-in_err-check_sent : goal.returns-in_err-check_sent
returns-in_err-check_sent c =
    let p = err_from_is_err_and c.from_residual.result c.from_residual.ensures.1 in
    rw (p.1, p.2)
    (data_stopped a_patch c.args.sent.now c.args.sum c.check_sent.new.packed _ c.in_err-check_sent.ensures (never_done c.in_err-check_sent.field-0.0))

pub returns : goal.returns
returns c =
    let packed = c.check_sent.new.packed in
    c.test.ensures ∙ fields_tested packed (c.check_sent.auto.packed ∙ c.requires.1)
    ∙ data_left a_patch c.args.sent.now c.args.sum packed _ c.in_ok-check_sent.ensures refl
