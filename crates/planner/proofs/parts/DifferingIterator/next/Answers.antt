-- A part that is the same is passed over; one that differs is the first of what was left.
use Rattle.std.proofs.Common.{◌≡◌, ◌+◌, ◌∷◌, ◌∙◌, sym, ap, arith, length}
use Rattle.edit_lists.specs.Plan.{differing}
use Rattle.edit_lists.specs.code.Left.{parts_left}
use Rattle.planner.specs.code.Parts.{left}
use Rattle.planner.proofs.Left.{is_part, passed_over, yielded, none_left}
use Rattle.planner.proofs.parts.DifferingIterator.next.Goals.{Then-not-same}
use Rattle.planner.proofs.parts.DifferingIterator.next.Goals as goal

first_left : (c : Then-not-same) → let s = c.loop-self.self in
    left c.args.self.now ≡ s.at ∷ differing (parts_left (s.at + c.width.result)) s.a.now s.b.now
unfolding left
first_left c =
    let s = c.loop-self.self in
    let p = is_part s.at s.stands c.loop-self-test.true in
    rw c.width.ensures (sym c.loop-self.invariant ∙ yielded s.a.now s.b.now s.at p (sym c.is_same-same.ensures ∙ c.if-not-same.true))

pub returns-then-not-same-clause-steps : goal.returns-then-not-same-clause-steps
unfolding left
returns-then-not-same-clause-steps c = first_left c

pub returns-then-not-same-clause-goes : goal.returns-then-not-same-clause-goes
unfolding left
returns-then-not-same-clause-goes c =
    record { on = λ _. (tt, tt, omega (arith, ap length (first_left c))); keeps = tt; rests = λ _. tt }

pub loop-self-preserved : goal.loop-self-preserved
unfolding left
loop-self-preserved c =
    let s = c.loop-self.self in
    let p = is_part s.at s.stands c.loop-self-test.true in
    rw c.width.ensures
    (sym (passed_over s.a.now s.b.now s.at p (sym c.is_same-same.ensures ∙ c.if-not-same.false)) ∙ c.loop-self.invariant)

pub returns-clause-steps : goal.returns-clause-steps
unfolding left
returns-clause-steps c =
    let s = c.loop-self.self in
    let e = none_left s.a.now s.b.now s.at s.stands c.loop-self-test.false in
    (sym c.loop-self.invariant ∙ e, e)
