-- `all_pass` goes on with true over bytes that pass alone.
use Rattle.std.proofs.Common.{◌≡◌, ℕ, List, true, subst, rules}
use Rattle.std.specs.Iterator.{AlwaysYields}
use Rattle.std.specs.List.{All}
use Rattle.std.proofs.lemmas.Fn.{fold_over, fronts, slice_gives}
use Rattle.std.proofs.lemmas.List.Elements.{All-nil, All-push}
use Rattle.frames.proofs.all_pass.Goals as goal

pub returns : goal.returns
returns g c =
    let P : ℕ → Type 0 = λ b. g.F.Fn.post c.args.passes (b, tt) true in
    let the_block = subst (λ (l : List ℕ). AlwaysYields fronts (λ y. y.now) c.iter.result l) c.iter.ensures.rest (slice_gives c.iter.result) in
    fold_over fronts (λ y. y.now) _ (λ ys a. a ≡ true → All P ys) _
    (λ ys a x b f' j k. (λ e. let both : (a ≡ true) × P x.now = search rules in All-push P ys x.now (j both.0) both.1, search rules))
    c.iter.result c.args.block.now true c.fold.result the_block (λ t. All-nil P) c.fold.ensures.ran
