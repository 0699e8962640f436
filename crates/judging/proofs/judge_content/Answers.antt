-- The maker, the device and that there is an opcode; F7H stands there where the content is too short.
use Rattle.std.proofs.Common.{◌≡◌, ◌∙◌, arith}
use Rattle.std.proofs.lemmas.Result.{err_from_is_err_and}
use Rattle.streams.specs.Bytes.{framed}
use Rattle.messages.specs.Judge.{byte_at}
use Rattle.messages.specs.Kinds.{kind_of}
use Rattle.messages.proofs.Content.{framed_byte, framed_end}
use Rattle.judging.specs.code.Counted.{content_of}
use Rattle.judging.specs.code.Judged.{kind_verdict}
use Rattle.judging.proofs.Bytes.{equal, framed_other, framed_equal, taken, missing}
use Rattle.judging.proofs.Verdicts.{judge_maker, judge_device, judge_opcode}
use Rattle.judging.proofs.judge_content.Goals as goal

pub returns-then-ne : goal.returns-then-ne
returns-then-ne c =
    let m = content_of c.args.content in
    rw (judge_maker (framed m) (framed_other m 0 0x10 _ (rw c.get.ensures at c.ne.ensures) c.if-ne.true (omega arith) (λ z. omega arith)))

pub returns-then-ne-2 : goal.returns-then-ne-2
returns-then-ne-2 c =
    let m = content_of c.args.content in
    let maker = framed_equal m 0 0x10 _ (rw c.get.ensures at c.ne.ensures) c.if-ne.false in
    let one = (equal m 0 0x10 _ (rw c.get.ensures at c.ne.ensures) c.if-ne.false).0 in
    rw (judge_device (framed m) maker (framed_other m 1 0x06 _ (rw c.get-2.ensures at c.ne-2.ensures) c.if-ne-2.true (omega arith) (λ z. omega arith)))

pub returns-in_err-opcode : goal.returns-in_err-opcode
unfolding kind_verdict kind_of
returns-in_err-opcode c =
    let m = content_of c.args.content in
    let p = err_from_is_err_and c.from_residual.result c.from_residual.ensures.1 in
    let maker = framed_equal m 0 0x10 _ (rw c.get.ensures at c.ne.ensures) c.if-ne.false in
    let device = framed_equal m 1 0x06 _ (rw c.get-2.ensures at c.ne-2.ensures) c.if-ne-2.false in
    let none = missing m 2 _ _ (rw c.get-3.ensures at c.ok_or.ensures.value) _ c.in_err-opcode.was in
    let two = (equal m 1 0x06 _ (rw c.get-2.ensures at c.ne-2.ensures) c.if-ne-2.false).0 in
    let e₃ : byte_at (framed m) 3 ≡ 0xF7 = framed_end m 2 (omega (arith, none.0, two)) in
    rw (p.1, p.2, none.1, judge_opcode (framed m) maker device, e₃)

pub returns : goal.returns
returns c =
    let m = content_of c.args.content in
    let maker = framed_equal m 0 0x10 _ (rw c.get.ensures at c.ne.ensures) c.if-ne.false in
    let device = framed_equal m 1 0x06 _ (rw c.get-2.ensures at c.ne-2.ensures) c.if-ne-2.false in
    let third = taken m 2 _ _ (rw c.get-3.ensures at c.ok_or.ensures.value) _ c.in_ok-opcode.was in
    let e₃ : byte_at (framed m) 3 ≡ c.in_ok-opcode.opcode = framed_byte m 2 third.0 ∙ third.1 in
    rw (judge_opcode (framed m) maker device, e₃) c.judge_kind.ensures
