-- Both patches and the room are tested in this order, and then the list is written: each return is a case of `planning`.
use Rattle.std.proofs.Common.{◌≡◌, sym, refl}
use Rattle.std.proofs.lemmas.Result.{MatchResult-at_ok, err_from_is_err_and}
use Rattle.answers.specs.Refusals.{outcome_by}
use Rattle.answers.specs.promises.Decides.{Silent}
use Rattle.answers.proofs.Effects.{gives_stopped, gives_short, gives_written}
use Rattle.answers.proofs.Refusals.{never_done, done_silent}
use Rattle.pairs.specs.Pairs.{pair_rows}
use Rattle.pairs.proofs.Pair.{pair_refusals}
use Rattle.edit_lists.specs.Lists.{list_bytes}
use Rattle.edit_lists.specs.Plan.{plan, planning}
use Rattle.planner.proofs.plan.Goals.{After-list_size-size}
use Rattle.planner.proofs.plan.Goals as goal

pub returns-in_err-test_pair : goal.returns-in_err-test_pair
unfolding planning
returns-in_err-test_pair c =
    let k = c.args in
    let p = err_from_is_err_and c.from_residual.result c.from_residual.ensures.1 in
    let refusal = c.in_err-test_pair.field-0.0 in
    rw (p.1, p.2)
    (gives_stopped (pair_rows k.a.now k.b.now) (list_bytes (plan k.a.now k.b.now)) k.out.now (outcome_by refusal)
    c.in_err-test_pair.ensures (never_done refusal))

-- A pair that passes.
silent : (l : After-list_size-size) → Silent (pair_rows l.args.a.now l.args.b.now)
silent l = let k = l.args in done_silent (pair_rows k.a.now k.b.now) 0 (pair_refusals k.a.now k.b.now) l.in_ok-test_pair.ensures

-- The two arrays are the patches.
same_pair : (l : After-list_size-size) → (l.unwrap-a.result.now ≡ l.args.a.now) × (l.unwrap-b.result.now ≡ l.args.b.now)
same_pair l =
    let a = MatchResult-at_ok _ _ _ l.unwrap-a.ensures l.try_into.ensures.1 in
    let b = MatchResult-at_ok _ _ _ l.unwrap-b.ensures l.try_into-2.ensures.1 in
    (a.same, b.same)

pub returns-then-out-size : goal.returns-then-out-size
unfolding planning
returns-then-out-size c =
    let k = c.args in
    let l = (goal.at.returns-then-out-size c).After-list_size-size in
    let same = same_pair l in
    let s = c.list_size-size in
    gives_short (pair_rows k.a.now k.b.now) (list_bytes (plan k.a.now k.b.now)) k.out.now s.result _
    (sym (rw (same.0, same.1) at s.ensures)) (silent l) c.if-out-size.true refl

pub returns : goal.returns
unfolding planning
returns c =
    let k = c.args in
    let l = (goal.at.returns c).After-list_size-size in
    let same = same_pair l in
    let s = c.list_size-size in
    gives_written (pair_rows k.a.now k.b.now) (list_bytes (plan k.a.now k.b.now)) k.out.now _ s.result _
    (sym (rw (same.0, same.1) at s.ensures)) (silent l) c.if-out-size.false refl (rw (same.0, same.1) at c.put_list.ensures)
