-- The value of a parameter in a patch, by what its lookup and the patch's tests come to.
use Rattle.std.proofs.Common.{◌≡◌, ℕ, List, [], get_or, sym, ap, ◌∙◌}
use mathlib.Core.Option.{none, some}
use Rattle.answers.specs.declared.Outcome.{Outcome}
use Rattle.answers.specs.Table.{done, outcome}
use Rattle.answers.specs.Effect.{tested}
use Rattle.answers.specs.promises.Decides.{Silent}
use Rattle.answers.proofs.Rows.{first_passed, first_stopped}
use Rattle.fields.specs.Fields.{value_at, place_of}
use Rattle.patch.specs.Patch.{patch_rows, held, not_held, holding}

module _ (n : ℕ) (p : List ℕ) where
  pub held_nowhere : place_of n ≡ none → holding n p ≡ not_held (outcome 8 0)
  unfolding holding
  held_nowhere e = rw e

  module _ (k : ℕ) (e : place_of n ≡ some k) where
    pub held_refused : (r : Outcome) → r ≡ tested (patch_rows p) → (r.answer ≡ 0 → ⊥) → holding n p ≡ not_held r
    unfolding holding
    held_refused r q z =
        rw (e, first_stopped (patch_rows p) (done 0 [] []) (λ w. z (ap (λ (o : Outcome). o.answer) q ∙ w))) (ap not_held (sym q))

    pub held_done : Silent (patch_rows p) → holding n p ≡ held (outcome 0 0) (value_at k (get_or p k 0))
    unfolding holding
    held_done s = rw (e, first_passed (patch_rows p) (done 0 [] []) s)
