use Rattle.std.proofs.Common.{◌≡◌, ◌<◌, ◌∙◌, refl, arith, true, false, List, ℕ, length}
use Rattle.std.proofs.Math.Option.{Option, some, none}
use Rattle.std.proofs.lemmas.Bool.Decides.{nat_tests}
use Rattle.checker.specs.code.Steps.{Turns}
use Rattle.checker.proofs.Steps.{last_none, last_stop, Onward, last_next}
use Rattle.checker.proofs.turn.Goals.{After-follow, In-Some}
use Rattle.checker.proofs.turn.Goals as goal

some_left : (f : After-follow) → 0 < length f.loop-rest.rest.now
some_left f = grind (arith, nat_tests)

next : (i : In-Some) → Onward i.loop-rest.rest.now i.loop-rest.p i.in-Some.behind.now i.follow.new.p
next i = last_next _ _ _ i.in-Some.behind (grind (arith, nat_tests)) i.in-Some.ensures

turns_none : (o : Option (List ℕ)) (after : List ℕ) → o ≡ none → Turns o false after
turns_none o after e = rw e refl

turns_some : (o : Option (List ℕ)) (after : List ℕ) → o ≡ some after → Turns o true after
turns_some o after e = rw e (refl, refl)

pub returns-in_default : goal.returns-in_default
returns-in_default c =
    let none_there = last_stop _ _ _ (some_left (goal.at.returns-in_default c).After-follow) c.in_default.ensures in
    turns_none _ _ (c.loop-rest.invariant.1 ∙ none_there)

pub loop-rest-preserved : goal.loop-rest-preserved
loop-rest-preserved c =
    let n = next (goal.at.loop-rest-preserved c).In-Some in
    (c.follow.auto.p ∙ c.loop-rest.invariant.0, c.loop-rest.invariant.1 ∙ n.last, n.good)

pub returns : goal.returns
returns c = turns_some _ _ (c.loop-rest.invariant.1 ∙ last_none _ _ (grind (arith, nat_tests)))

pub loop-rest-smaller : goal.loop-rest-smaller
loop-rest-smaller c = let n = next (goal.at.loop-rest-smaller c).In-Some in n.fewer
