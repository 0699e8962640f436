use Rattle.std.proofs.Common.{◌∙◌, sym, ap, take, drop, nat_lt, rules, tests}
use Rattle.std.proofs.lemmas.Iterator.{YieldsList-from_slice, YieldsList-from_take}
use Rattle.std.proofs.lemmas.Iterator.Adapters.{YieldsList-from_skip}
use Rattle.std.proofs.lemmas.Iterator.Search.{all_from_yields_List}
use Rattle.std.proofs.lemmas.Slice.{between_is}
use Rattle.plan.specs.Files.{only_real_time}
use Rattle.plan.proofs.Files.{quiet_is}
use Rattle.plan.proofs.only_real_time.Goals as goal

pub returns : goal.returns
returns c =
    let s = c.args.s.now in
    let chain = YieldsList-from_skip c.args.from (YieldsList-from_take c.args.to (YieldsList-from_slice s cc) cc) cc in
    let all = all_from_yields_List (λ b. nat_lt 247 b) _ _ _ c.all.ensures.ran chain (λ x b q k. search (rules, tests)) in
    all ∙ sym (quiet_is (drop c.args.from (take c.args.to s))) ∙ ap only_real_time (sym (between_is s c.args.from c.args.to))
