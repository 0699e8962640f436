-- The search of the library, by the test of the definition.
use Rattle.std.proofs.Common.{◌≡◌, ℕ, Bool, ◌||◌, ltb, List, refl, ◌∙◌, rules, tests}
use Rattle.std.specs.List.{list_any}
use Rattle.std.proofs.lemmas.Iterator.{YieldsList-from_slice}
use Rattle.std.proofs.lemmas.Iterator.Search.{any_from_yields_List}
use Rattle.std.proofs.lemmas.List.Recursion.{same_from_clauses}
use Rattle.names.specs.Names.{any_outside}
use Rattle.names.proofs.any_outside.Goals as goal

abbrev outside : ℕ → Bool
outside t = ltb t 32 || ltb 95 t

same : (text : List ℕ) → list_any outside text ≡ any_outside text
unfolding any_outside
same = same_from_clauses (list_any outside) any_outside (λ t b. outside t || b) refl (λ _ _. refl) (λ _ _. refl)

pub returns : goal.returns
returns c =
    let text = c.args.text.now in
    any_from_yields_List outside _ _ c.any.result c.any.ensures.ran (YieldsList-from_slice text cc)
    (λ x b q k. search (rules, tests))
    ∙ same text
