-- The pair's tests, then what turning a patch of our own gave.
use Rattle.std.proofs.Common.{◌≡◌, ◌∙◌, sym, refl, Bool, true, false, [], ◌∷◌}
use Rattle.std.proofs.lemmas.Result.{MatchResult-at_ok, err_from_is_err_and}
use mathlib.Core.Bool.{not, ◌&&◌}
use Rattle.answers.specs.Table.{row}
use Rattle.answers.specs.Effect.{tested}
use Rattle.answers.specs.Refusals.{outcome_by}
use Rattle.answers.proofs.Refusals.{never_done, done_silent}
use Rattle.answers.proofs.Rows.{tested_passed}
use Rattle.patch.specs.Patch.{patch_rows}
use Rattle.pairs.specs.Pairs.{same_bytes, pair_rows}
use Rattle.pairs.proofs.Pair.{pair_refusals, silent_pair}
use Rattle.edit_lists.specs.Check.{checking}
use Rattle.checker.proofs.Steps.{decided, pair_stops, list_decides}
use Rattle.checker.proofs.check_plan.Goals.{After-turn, After-unwrap-p}
use Rattle.checker.proofs.check_plan.Goals.{then-not-turn-via-then-not-turn, then-not-turn-via-else-not-turn+then-not-same}
use Rattle.checker.proofs.check_plan.Goals as goal

pub returns-in_err-test_pair : goal.returns-in_err-test_pair
returns-in_err-test_pair c =
    let k = c.args in
    let p = err_from_is_err_and c.from_residual.result c.from_residual.ensures.1 in
    let refusal = c.in_err-test_pair.field-0.0 in
    rw (p.1, p.2) (pair_stops k.a.now k.b.now k.list.now (outcome_by refusal) c.in_err-test_pair.ensures (never_done refusal))

-- Our own is the first patch.
own : (u : After-unwrap-p) → u.unwrap-p.result ≡ u.args.a.now
own u = let whole = MatchResult-at_ok _ _ _ u.unwrap-p.ensures u.try_into.ensures.1 in whole.same

-- A pair that passes has a good first patch.
pub turn-requires : goal.turn-requires
turn-requires c =
    let u = (goal.at.turn-requires c).After-unwrap-p in
    let a = c.args.a.now in
    let b = c.args.b.now in
    let pair = silent_pair a b (done_silent (pair_rows a b) 0 (pair_refusals a b) c.in_ok-test_pair.ensures) in
    rw (own u) (tested_passed (patch_rows a) pair.from)

-- So the list decides.
answered : (t : After-turn) → t.unwrap-p.result ≡ t.args.a.now → (v : Bool) → let k = t.args in
    (t.turn.result && same_bytes t.turn.new.p k.b.now) ≡ v → tested (row 20 (not v) ∷ []) ≡ checking k.a.now k.b.now k.list.now
answered t mine v f =
    let a = t.args.a.now in
    let b = t.args.b.now in
    let list = t.args.list.now in
    let silent = done_silent (pair_rows a b) 0 (pair_refusals a b) t.in_ok-test_pair.ensures in
    sym (list_decides a b list silent v (decided a b list t.turn.result t.turn.new.p (rw mine at t.turn.ensures) ∙ f))

pub returns-then-not-turn : goal.returns-then-not-turn
returns-then-not-turn c =
    let l = goal.at.returns-then-not-turn c in
    answered l.After-turn (own l.After-unwrap-p) false
    (elim c.then-not-turn.branch [
      | then-not-turn-via-then-not-turn w ↦ rw w.if-not-turn.true refl
      | then-not-turn-via-else-not-turn+then-not-same w ↦ rw (w.if-not-turn.false, ← w.same.ensures) w.if-not-same.true
    ])

pub returns : goal.returns
returns c =
    let l = goal.at.returns c in
    answered l.After-turn (own l.After-unwrap-p) true (rw (c.if-not-turn.false, ← c.same.ensures) c.if-not-same.false)
