-- Each return is a case of `proposing`.
use Rattle.std.proofs.Common.{◌≡◌, sym, ap, ◌∙◌, true, false}
use Rattle.std.specs.Prelude.{⊤, Result, Ok, Err}
use Rattle.std.specs.Result.{is_err}
use borrow.Author.Tests.{ne_eqb}
use Rattle.answers.specs.declared.Outcome.{Outcome}
use Rattle.answers.specs.declared.Refusal.{Refusal}
use Rattle.answers.specs.Refusals.{told_test}
use Rattle.answers.proofs.Refusals.{never_done}
use Rattle.text.specs.Text.{ascii}
use Rattle.plan.specs.Said.{proposing}
use Rattle.plan.proofs.Lines.{both, err_alone}
use Rattle.plan.proofs.put_proposal.Goals.{then-lines, else-lines}
use Rattle.plan.proofs.put_proposal.Goals as goal

-- What the pair's test comes to.
passed : (r : Result ⊤ Refusal) (o : Outcome) → told_test r ≡ o → is_err r ≡ false → o.answer ≡ 0
passed (Ok u) o e z = ap (λ (p : Outcome). p.answer) (sym e)
passed (Err x) o e z = cc

refused : (r : Result ⊤ Refusal) (o : Outcome) → told_test r ≡ o → is_err r ≡ true → o.answer ≡ 0 → ⊥
refused (Ok u) o e z h = cc
refused (Err x) o e z h = never_done x (ap (λ (p : Outcome). p.answer) e ∙ h)

pub returns-then-is_err : goal.returns-then-is_err
unfolding proposing ascii
returns-then-is_err c =
    let t = c.test_pair in
    let stopped = refused t.result _ t.ensures (sym c.is_err.ensures.value ∙ c.if-is_err.true) in
    rw (ne_eqb _ 0 stopped) (err_alone c.end-start.ensures c.put.ensures)

pub put_list-requires : goal.put_list-requires
put_list-requires c = let t = c.test_pair in passed t.result _ t.ensures (sym c.is_err.ensures.value ∙ c.if-is_err.false)

pub returns : goal.returns
unfolding proposing ascii
returns c =
    let t = c.test_pair in
    let done = passed t.result _ t.ensures (sym c.is_err.ensures.value ∙ c.if-is_err.false) in
    elim c.if-lines.branch [
      | then-lines w ↦ rw (done, w.if-lines.true) (both c.end-out.ensures (rw (← w.text-is) at w.put_changes.ensures) c.put-2.ensures)
      | else-lines w ↦ rw (done, w.if-lines.false) (both c.end-out.ensures (rw (← w.text-is) at w.put_list.ensures) c.put-2.ensures)
    ]
