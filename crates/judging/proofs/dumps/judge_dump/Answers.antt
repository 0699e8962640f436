-- The length, the byte behind the opcode, then the data: each return is what the rows of the description are answered.
use Rattle.std.proofs.Common.{◌≡◌, ℕ, ◌+◌, false, List, [], ◌∷◌, length, get_or, refl, sym, ap, ◌∙◌, arith}
use Rattle.std.specs.Prelude.{unwrap_or}
use Rattle.std.proofs.lemmas.Option.{unwrap_or-slice_get}
use Rattle.std.proofs.lemmas.Result.{err_from_is_err_and}
use Rattle.answers.specs.declared.Outcome.{Outcome}
use Rattle.answers.specs.Table.{outcome, four}
use Rattle.answers.specs.Effect.{tested}
use Rattle.answers.specs.Refusals.{outcome_by}
use Rattle.answers.proofs.Refusals.{never_done}
use Rattle.messages.specs.declared.kinds.Behind.{Behind}
use Rattle.messages.specs.declared.kinds.Behind.TheVariants.{NumberTo as number_to, Always as always}
use Rattle.messages.specs.declared.kinds.Kind.TheVariants.{Dump as of_dump}
use Rattle.messages.specs.Judge.{misnumbered, number_in}
use Rattle.messages.proofs.Filed.{is_sized}
use Rattle.judging.specs.code.Counted.{content_of}
use Rattle.judging.specs.code.Judged.{sent_rows_in}
use Rattle.judging.proofs.Places.{content_within}
use Rattle.judging.proofs.Verdicts.{kind_length, kind_stopped, kind_done, content_rows, dump_judged}
use Rattle.judging.proofs.dumps.judge_dump.Goals.{After-wrong_number}
use Rattle.judging.proofs.dumps.judge_dump.Goals as goal

pub overflow_add-len : goal.overflow_add-len
overflow_add-len c = omega (arith, c.len.ensures, content_within c.args.content.count c.args.content.body.now, c.ranges.content)

pub returns-then-len-kind : goal.returns-then-len-kind
returns-then-len-kind c =
    kind_length (dump_judged c.args.kind c.requires (content_of c.args.content)) (λ e. c.if-len-kind.true (ap (λ (n : ℕ). n + 2) c.len.ensures ∙ e))

abbrev content : After-wrong_number → List ℕ
content t = content_of t.args.content

-- The length is right.
long : (t : After-wrong_number) → length (content t) + 2 ≡ t.args.kind.length
long t = sym (ap (λ (n : ℕ). n + 2) t.len.ensures) ∙ t.if-len-kind.false

-- The byte behind the opcode, and whether it passes.
abbrev byte : After-wrong_number → ℕ
byte t = get_or (content t) 3 0

read : (t : After-wrong_number) → t.unwrap_or-number.result ≡ byte t
read t = t.unwrap_or-number.ensures ∙ ap (λ o. unwrap_or o 0) t.get.ensures ∙ unwrap_or-slice_get (content t) 3 0

number : (t : After-wrong_number) → t.wrong_number.result ≡ misnumbered t.args.kind.behind (byte t)
number t = t.wrong_number.ensures ∙ ap (misnumbered t.args.kind.behind) (read t)

-- Where it does, what the data and the packed bytes are answered is what the rows are.
answered : (t : After-wrong_number) (o : Outcome) → t.wrong_number.result ≡ false → o ≡ tested (sent_rows_in t.args.kind.packed (content t))
    → o ≡ tested (content_rows t.args.kind (content t))
answered t o z q = let right : misnumbered t.args.kind.behind (byte t) ≡ false = sym (number t) ∙ z in rw right q

-- The number is the first of the bytes that come with the answer, and the only one.
number_only : (b : Behind) (n : ℕ) → get_or (number_in b n) 0 0 ∷ 0 ∷ 0 ∷ 0 ∷ [] ≡ four (number_in b n)
number_only (number_to greatest) n = refl
number_only (always byte) n = refl

pub returns-then-wrong_number : goal.returns-then-wrong_number
returns-then-wrong_number c =
    let t = (goal.at.returns-then-wrong_number c).After-wrong_number in
    let wrong = sym (number t) ∙ c.if-wrong_number.true in
    let said : outcome 8 0 ≡ tested (content_rows c.args.kind (content t)) = rw wrong in
    kind_stopped (dump_judged c.args.kind c.requires (content t)) (long t) said (λ z. omega arith)

pub check_packed-requires : goal.check_packed-requires
check_packed-requires c =
    let t = (goal.at.check_packed-requires c).After-wrong_number in
    let sized = is_sized (of_dump c.args.kind) c.requires in
    (omega (arith, long t, sized.0), sized.1)

pub returns-in_err-check_packed : goal.returns-in_err-check_packed
returns-in_err-check_packed c =
    let t = (goal.at.returns-in_err-check_packed c).After-wrong_number in
    let p = err_from_is_err_and c.from_residual.result c.from_residual.ensures.1 in
    let refusal = c.in_err-check_packed.field-0.0 in
    let said = answered t (outcome_by refusal) c.if-wrong_number.false c.in_err-check_packed.ensures in
    rw (p.1, p.2) (kind_stopped (dump_judged c.args.kind c.requires (content t)) (long t) said (never_done refusal))

pub returns : goal.returns
returns c =
    let t = (goal.at.returns c).After-wrong_number in
    let said = answered t (outcome 0 0) c.if-wrong_number.false c.in_ok-check_packed.ensures in
    rw (c.number_of.ensures, read t, number_only c.args.kind.behind (byte t))
    (kind_done (dump_judged c.args.kind c.requires (content t)) (long t) said refl)
