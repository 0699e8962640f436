use Rattle.std.proofs.Common.{refl}
use Rattle.std.proofs.lemmas.Result.{err_from_is_err_and}
use Rattle.answers.specs.Refusals.{outcome_by}
use Rattle.answers.proofs.Refusals.{never_done}
use Rattle.judging.proofs.Data.{packing_refused, packing_gathered}
use Rattle.judging.proofs.content.pack_sent.Goals as goal

pub returns-in_err-pack_into : goal.returns-in_err-pack_into
returns-in_err-pack_into c =
    let p = err_from_is_err_and c.from_residual.result c.from_residual.ensures.1 in
    let refusal = c.in_err-pack_into.field-0.0 in
    rw (p.1, p.2)
    (packing_refused c.args.sent.now c.args.packed.now c.pack_into.new.out (outcome_by refusal) c.requires c.in_err-pack_into.ensures (never_done refusal))

pub returns : goal.returns
returns c = packing_gathered c.args.sent.now c.args.packed.now c.pack_into.new.out _ c.requires c.in_ok-pack_into.ensures refl
