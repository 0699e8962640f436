-- The data are packed, then the sum is compared: each return is a case of the rows of a dump's data.
use Rattle.std.proofs.Common.{refl}
use Rattle.std.proofs.lemmas.Result.{err_from_is_err_and}
use Rattle.answers.proofs.Refusals.{never_done}
use Rattle.judging.proofs.Data.{check_refused, check_sum, check_done}
use Rattle.judging.proofs.dumps.check_sent.Goals as goal

pub returns-in_err-pack_sent : goal.returns-in_err-pack_sent
returns-in_err-pack_sent c =
    let p = err_from_is_err_and c.from_residual.result c.from_residual.ensures.1 in
    rw (p.1, p.2)
    (check_refused c.args.sent.now c.args.sum c.pack_sent.new.packed _ c.in_err-pack_sent.ensures (never_done c.in_err-pack_sent.field-0.0))

pub returns-then-checksum-sum : goal.returns-then-checksum-sum
returns-then-checksum-sum c =
    check_sum c.args.sent.now c.args.sum c.pack_sent.new.packed _ c.in_ok-pack_sent.ensures refl c.checksum.result c.checksum.ensures
    c.if-checksum-sum.true

pub returns : goal.returns
returns c =
    check_done c.args.sent.now c.args.sum c.pack_sent.new.packed _ c.in_ok-pack_sent.ensures refl c.checksum.result c.checksum.ensures
    c.if-checksum-sum.false
