-- Judged, then the room is tested, then the data are packed: each return is a case of `recorded_as`.
use Rattle.std.proofs.Common.{◌≡◌, length, take, refl, ap, ◌∙◌, arith, length-take-le}
use Rattle.std.proofs.lemmas.Result.{err_from_is_err_and}
use Rattle.answers.specs.declared.Outcome.{Outcome}
use Rattle.answers.proofs.Refusals.{never_done}
use Rattle.messages.specs.Kinds.{kind_of}
use Rattle.messages.specs.code.Sizes.{packed_size}
use Rattle.messages.proofs.Accepted.{Accepted}
use Rattle.judging.specs.code.Counted.{content_of}
use Rattle.judging.specs.code.Judged.{Judged}
use Rattle.judging.proofs.Records.{accepted_so, record_refused, record_short, record_stored, nothing_packed}
use Rattle.judging.proofs.record_content.Goals.{In_ok-accepted, After-packed_size-size, Then-size-gt0}
use Rattle.judging.proofs.record_content.Goals as goal

pub returns-in_err-accepted : goal.returns-in_err-accepted
returns-in_err-accepted c =
    let p = err_from_is_err_and c.from_residual.result c.from_residual.ensures.1 in
    rw (p.1, p.2)
    (record_refused (content_of c.args.content) _ c.in_err-accepted.ensures c.args.buffer.now (never_done c.in_err-accepted.field-0.0))

-- What is accepted has the size that its opcode finds.
its : (a : In_ok-accepted) → Accepted (content_of a.args.content)
its a = accepted_so (content_of a.args.content) _ a.in_ok-accepted.ensures refl

size : (n : After-packed_size-size) → (a : Accepted (content_of n.args.content)) → n.packed_size-size.result ≡ a.size
size n a =
    let told = ap (λ (j : Judged). j.outcome.detail) n.in_ok-accepted.ensures in
    let opcode : n.in_ok-accepted.accepted.opcode ≡ a.opcode = rw a.verdict at told in
    n.packed_size-size.ensures ∙ ap packed_size (n.kind_of.ensures ∙ ap kind_of opcode) ∙ a.found

pub returns-then-buffer-size : goal.returns-then-buffer-size
returns-then-buffer-size c =
    let a = its (goal.at.returns-then-buffer-size c).In_ok-accepted in
    let n = size (goal.at.returns-then-buffer-size c).After-packed_size-size a in
    record_short (content_of c.args.content) _ c.in_ok-accepted.ensures a c.args.buffer.now _ (omega (arith, n, c.if-buffer-size.true)) refl

-- The part of the buffer that is lent has room for the packed bytes and no more.
room : (g : Then-size-gt0) → length (take g.packed_size-size.result g.args.buffer.now) ≡ g.packed_size-size.result
room g = length-take-le g.packed_size-size.result g.args.buffer.now (omega (arith, g.if-buffer-size.false))

pub pack-requires : goal.pack-requires
pack-requires c =
    let a = its (goal.at.pack-requires c).In_ok-accepted in
    let n = size (goal.at.pack-requires c).After-packed_size-size a in
    omega (arith, room (goal.at.pack-requires c).Then-size-gt0, n, a.fits (omega (arith, n, c.if-size-gt0.true)))

pub returns-in_err-pack : goal.returns-in_err-pack
returns-in_err-pack c =
    let a = its (goal.at.returns-in_err-pack c).In_ok-accepted in
    let n = size (goal.at.returns-in_err-pack c).After-packed_size-size a in
    let told = (rw (room (goal.at.returns-in_err-pack c).Then-size-gt0, n) at c.in_err-pack.ensures).told in
    absurd (never_done c.in_err-pack.field-0.0 (ap (λ (o : Outcome). o.answer) (rw a.narrow at told)))

pub returns-in_ok-pack : goal.returns-in_ok-pack
returns-in_ok-pack c =
    let a = its (goal.at.returns-in_ok-pack c).In_ok-accepted in
    let n = size (goal.at.returns-in_ok-pack c).After-packed_size-size a in
    let filled = (rw (room (goal.at.returns-in_ok-pack c).Then-size-gt0, n) at c.in_ok-pack.ensures).packed a.narrow in
    record_stored (content_of c.args.content) _ c.in_ok-accepted.ensures a c.args.buffer.now _ (omega (arith, n, c.if-buffer-size.false))
    (rw (n, filled))

pub returns-else-size-gt0 : goal.returns-else-size-gt0
returns-else-size-gt0 c =
    let a = its (goal.at.returns-else-size-gt0 c).In_ok-accepted in
    let n = size (goal.at.returns-else-size-gt0 c).After-packed_size-size a in
    let content = content_of c.args.content in
    let lent = c.args.buffer.now in
    let none : a.size ≡ 0 = omega (arith, n, c.if-size-gt0.false) in
    record_stored content _ c.in_ok-accepted.ensures a lent lent (omega arith) (nothing_packed content _ c.in_ok-accepted.ensures a lent none)
