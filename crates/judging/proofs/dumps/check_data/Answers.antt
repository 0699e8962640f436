-- The data are packed, then the byte behind them is compared with the sum.
use Rattle.std.proofs.Common.{◌+◌, ◌*◌, length, refl, sym, arith}
use Rattle.std.proofs.lemmas.Result.{err_from_is_err_and}
use Rattle.answers.proofs.Refusals.{never_done}
use Rattle.judging.specs.code.Content.{sent_in, sum_in}
use Rattle.judging.specs.code.Counted.{content_of}
use Rattle.judging.proofs.Bytes.{equal, other}
use Rattle.judging.proofs.Data.{check_refused, check_sum, check_done}
use Rattle.judging.proofs.dumps.check_data.Goals as goal

pub returns-in_err-pack : goal.returns-in_err-pack
returns-in_err-pack c =
    let p = err_from_is_err_and c.from_residual.result c.from_residual.ensures.1 in
    rw (p.1, p.2) (check_refused _ _ c.pack.new.packed _ c.in_err-pack.ensures (never_done c.in_err-pack.field-0.0))

pub returns-then-ne : goal.returns-then-ne
returns-then-ne c =
    let content = content_of c.args.content in
    let n = length c.args.packed.now in
    let differs = other content (4 + 2 * n) c.checksum.result c.ne.result (rw (c.get.ensures, c.pack.auto.packed) at c.ne.ensures) c.if-ne.true (omega (arith, c.requires)) in
    check_sum (sent_in n content) (sum_in n content) c.pack.new.packed _ c.in_ok-pack.ensures refl c.checksum.result c.checksum.ensures (λ e. differs (sym e))

pub returns : goal.returns
returns c =
    let content = content_of c.args.content in
    let n = length c.args.packed.now in
    let same = equal content (4 + 2 * n) c.checksum.result c.ne.result (rw (c.get.ensures, c.pack.auto.packed) at c.ne.ensures) c.if-ne.false in
    check_done (sent_in n content) (sum_in n content) c.pack.new.packed _ c.in_ok-pack.ensures refl c.checksum.result c.checksum.ensures (sym same.1)
