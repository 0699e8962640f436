-- The length, then the bytes behind the opcode: each return is what the rows of the description are answered.
use Rattle.std.proofs.Common.{◌≡◌, ℕ, ◌-◌, ◌+◌, ◌≤◌, List, length, take, drop, length-drop, sym, ◌∙◌, ap, refl, arith, eq-eqb}
use Rattle.std.proofs.lemmas.Result.{err_from_is_err_and}
use Rattle.answers.specs.declared.Outcome.{Outcome}
use Rattle.answers.specs.Table.{Row, outcome}
use Rattle.answers.specs.Refusals.{outcome_by}
use Rattle.answers.specs.Effect.{tested}
use Rattle.answers.proofs.Refusals.{never_done}
use Rattle.messages.specs.declared.kinds.Kind.TheVariants.{Short as of_short}
use Rattle.messages.specs.Kinds.{count_of}
use Rattle.messages.specs.Judge.{operand_rows, lent_operand_rows}
use Rattle.messages.proofs.Filed.{is_sized}
use Rattle.judging.specs.code.Counted.{content_of}
use Rattle.judging.proofs.Places.{content_within}
use Rattle.judging.proofs.Verdicts.{kind_length, kind_stopped, kind_done, short_judged, four_front}
use Rattle.judging.proofs.shorts.judge_short.Goals.{After-first_four-bytes}
use Rattle.judging.proofs.shorts.judge_short.Goals as goal

pub overflow_add-len : goal.overflow_add-len
overflow_add-len c = omega (arith, c.len.ensures, content_within c.args.content.count c.args.content.body.now, c.ranges.content)

pub returns-then-len-kind : goal.returns-then-len-kind
returns-then-len-kind c =
    kind_length (short_judged c.args.kind c.requires (content_of c.args.content)) (λ e. c.if-len-kind.true (ap (λ (n : ℕ). n + 2) c.len.ensures ∙ e))

abbrev content : After-first_four-bytes → List ℕ
content f = content_of f.args.content

-- The length is right, so the bytes behind the opcode are as many as the description says, and at most four.
long : (f : After-first_four-bytes) → length (content f) + 2 ≡ f.args.kind.length
long f = sym (ap (λ (n : ℕ). n + 2) f.len.ensures) ∙ f.if-len-kind.false

counted : (f : After-first_four-bytes) → length (drop 3 (content f)) ≡ count_of f.args.kind.operands
counted f = omega (arith, length-drop 3 (content f), long f, (is_sized (of_short f.args.kind) f.requires).0)

most : (f : After-first_four-bytes) → (3 ≤ length (content f)) × (length (drop 3 (content f)) ≤ 4)
most f =
    let sized = is_sized (of_short f.args.kind) f.requires in
    (omega (arith, long f, sized.0), omega (arith, counted f, sized.1))

-- The first of the four bytes, so many, are those behind the opcode.
front : (f : After-first_four-bytes) → take (length (content f) - 3) f.first_four-bytes.result ≡ drop 3 (content f)
front f =
    let behind : length (content f) - 3 ≡ length (drop 3 (content f)) = omega (arith, length-drop 3 (content f)) in
    rw (behind, f.first_four-bytes.ensures) (four_front (drop 3 (content f)) (most f).1)

-- What the rows of the operands are answered.
abbrev rows : After-first_four-bytes → List Row
rows f = operand_rows f.args.kind.operands (drop 3 (content f))

answered : (f : After-first_four-bytes) (o : Outcome) (n : ℕ) → n ≡ length (content f)
    → o ≡ tested (lent_operand_rows f.args.kind.operands (take (n - 3) f.first_four-bytes.result)) → o ≡ tested (rows f)
answered f o n e q = rw (e, front f, eq-eqb (length (drop 3 (content f))) (count_of f.args.kind.operands) (counted f)) at q

pub slice_bounds-bytes-count : goal.slice_bounds-bytes-count
slice_bounds-bytes-count c = let f = (goal.at.slice_bounds-bytes-count c).After-first_four-bytes in omega (arith, c.len-2.ensures, (most f).0)

pub slice_bounds-bytes-end : goal.slice_bounds-bytes-end
slice_bounds-bytes-end c =
    let f = (goal.at.slice_bounds-bytes-end c).After-first_four-bytes in
    omega (arith, c.len-2.ensures, (most f).1, length-drop 3 (content f), ap length c.first_four-bytes.ensures)

pub slice_bounds-test_operands-length : goal.slice_bounds-test_operands-length
slice_bounds-test_operands-length c =
    let f = (goal.at.slice_bounds-test_operands-length c).After-first_four-bytes in
    rw (c.len-2.ensures, front f) (omega (arith, length-drop 3 (content f)))

pub returns-in_err-test_operands : goal.returns-in_err-test_operands
returns-in_err-test_operands c =
    let f = (goal.at.returns-in_err-test_operands c).After-first_four-bytes in
    let p = err_from_is_err_and c.from_residual.result c.from_residual.ensures.1 in
    let refusal = c.in_err-test_operands.field-0.0 in
    let said = answered f (outcome_by refusal) c.len-2.result c.len-2.ensures c.in_err-test_operands.ensures in
    rw (p.1, p.2) (kind_stopped (short_judged c.args.kind c.requires (content f)) (long f) said (never_done refusal))

pub returns : goal.returns
returns c =
    let f = (goal.at.returns c).After-first_four-bytes in
    let said = answered f (outcome 0 0) c.len-2.result c.len-2.ensures c.in_ok-test_operands.ensures in
    rw c.first_four-bytes.ensures (kind_done (short_judged c.args.kind c.requires (content f)) (long f) said refl)
