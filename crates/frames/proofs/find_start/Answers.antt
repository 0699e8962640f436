-- `find_start` counts on behind the blocks that have no F0H.
use Rattle.std.proofs.Common.{◌≡◌, ◌≢◌, ◌<◌, length, get_or, take, drop, sym, eqb-true, length-drop, arith, rules}
use Rattle.std.specs.List.{All}
use Rattle.answers.proofs.Lists.{to_end}
use Rattle.frames.specs.code.Extent.{ahead}
use Rattle.frames.proofs.Extent.{ahead_now, ahead_is, ahead_past, ahead_within}
use Rattle.frames.proofs.find_start.Goals.{After-count_ahead}
use Rattle.frames.proofs.find_start.Goals as goal

pub returns-then-eq : goal.returns-then-eq
returns-then-eq c =
    let s = c.args.rest.now in
    let at : (0 < length s) × (get_or s 0 0 ≡ 0xF0) = search (rules, eqb-true) in sym (ahead_now s at.0 at.1)

-- What is counted behind the blocks is what is left to count.
counted : (c : After-count_ahead) → c.count_ahead.result ≡ ahead (drop c.skip-passed.result c.args.rest.now)
counted c = rw (ahead_is (drop c.skip-passed.result c.args.rest.now), ← to_end c.skip-passed.result c.args.rest.now) c.count_ahead.ensures

pub overflow_add-result : goal.overflow_add-result
overflow_add-result c =
    let s = c.args.rest.now in
    let n = c.skip-passed.result in
    omega (arith, counted c, ahead_within (drop n s), length-drop n s, c.skip-passed.ensures.within, c.well_formed)

pub returns : goal.returns
returns c =
    let s = c.args.rest.now in
    let n = c.skip-passed.result in
    let others : All (λ b. b ≢ 0xF0) (take n s) = λ k d h. let p = c.skip-passed.ensures.passed k d h in search rules in
    omega (arith, counted c, ahead_past s n c.skip-passed.ensures.within others)
