-- The tests of a pair: what rows that say nothing tell of the two patches.
use mathlib.Core.Path.{◌≡◌, refl}
use mathlib.Core.Bool.{not}
use mathlib.Core.List.{List, [], ◌∷◌, ◌++◌}
use mathlib.Core.Option.{none}
use Prim.Native.Nat.{ℕ}
use native.Mathlib.Omega.{arith}
use borrow.Author.Tests.{not-false}
use Rattle.answers.specs.Table.{Row, row, says, done}
use Rattle.answers.specs.Effect.{tested}
use Rattle.answers.specs.promises.Decides.{Silent}
use Rattle.answers.proofs.Lists.{all_append}
use Rattle.answers.proofs.Rows.{Refusals, both_refusals, passed_over, silent_parts, row_silent}
use Rattle.patch.specs.Patch.{patch_rows}
use Rattle.patch.proofs.Tests.{patch_refusals}
use Rattle.pairs.specs.Pairs.{same_bytes, name_of, pair_rows}
use Rattle.pairs.proofs.Equal.{same_refl, same_equal}

module _ (a b : List ℕ) where
  abbrev pub name_rows : List Row
  name_rows = row 16 (not (same_bytes (name_of a) (name_of b))) ∷ []

  pub second_refusals : Refusals (patch_rows b ++ name_rows)
  second_refusals = both_refusals (patch_rows b) name_rows (patch_refusals b) (omega arith)

  pub pair_refusals : Refusals (pair_rows a b)
  pair_refusals = both_refusals (patch_rows a) (patch_rows b ++ name_rows) (patch_refusals a) second_refusals

  -- Where neither patch is refused the names decide.
  module _ (s : Silent (patch_rows a)) where
    pub by_names : Silent (patch_rows b) → tested (pair_rows a b) ≡ tested name_rows
    by_names t = rw (passed_over (patch_rows a) (patch_rows b ++ name_rows) (done 0 [] []) s, passed_over (patch_rows b) name_rows (done 0 [] []) t)

    pub pair_silent : Silent (patch_rows b) → name_of a ≡ name_of b → Silent (pair_rows a b)
    pair_silent t e =
        all_append (λ (r : Row). says r ≡ none) (patch_rows a) (patch_rows b ++ name_rows) s
        (all_append (λ (r : Row). says r ≡ none) (patch_rows b) name_rows t (rw (e, same_refl (name_of b)) (refl, tt)))

  -- Both patches pass, and have one name.
  pub record Pair : Type 0 where
    pub from : Silent (patch_rows a)
    pub to : Silent (patch_rows b)
    pub names : name_of a ≡ name_of b

  pub silent_pair : Silent (pair_rows a b) → Pair
  silent_pair s =
      let all = silent_parts (patch_rows a) (patch_rows b ++ name_rows) s in
      let rest = silent_parts (patch_rows b) name_rows all.1 in
      record {
        from = all.0;
        to = rest.0;
        names = same_equal (name_of a) (name_of b) (not-false _ (row_silent 16 (not (same_bytes (name_of a) (name_of b))) rest.1.0));
      }
