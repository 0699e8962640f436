-- The search of the library, byte by byte, is that of the definition.
use Rattle.std.proofs.Common.{◌≡◌, ℕ, suc, ltb, Bool, true, false, List, [], ◌∷◌, sym, refl, ap, ◌∙◌, add-one}
use Rattle.std.specs.List.{position_from}
use Rattle.std.proofs.lemmas.Iterator.Adapters.{position_from-zero}
use Rattle.ranges.specs.code.Found.{found_at}
use Rattle.nibbles.specs.Nibbles.{wide_from}
use Rattle.nibbles.proofs.first_wide.Goals as goal

searched : (i : ℕ) (s : List ℕ) → position_from (λ b. ltb 15 b) i s ≡ found_at (wide_from i s)
unfolding wide_from
searched i [] = refl
searched i (b ∷ s) = go (ltb 15 b) refl (searched (suc i) s)
  where
    go : (t : Bool) → ltb 15 b ≡ t → position_from (λ b. ltb 15 b) (suc i) s ≡ found_at (wide_from (suc i) s)
        → position_from (λ b. ltb 15 b) i (b ∷ s) ≡ found_at (wide_from i (b ∷ s))
    go true e h = simp e
    go false e h = simp (e, add-one) h

pub returns-then-none_wide : goal.returns-then-none_wide
returns-then-none_wide c = sym (ap found_at (c.none_wide.ensures c.if-none_wide.true))

pub returns : goal.returns
returns c = let sent = c.args.sent.now in c.search_wide.ensures ∙ position_from-zero (λ b. ltb 15 b) sent ∙ searched 0 sent
