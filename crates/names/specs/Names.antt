-- A patch's name: its bytes 0-7, and its text.
use Rattle.std.specs.Prelude.{Bool, false, cond, not, ◌||◌, List, [], ◌∷◌, ◌++◌, map, ℕ, ◌+◌, ◌-◌, eqb, ltb, length, take, drop}
use Rattle.answers.specs.declared.Outcome.{Outcome}
use Rattle.answers.specs.Table.{Row, row, done, first}
use Rattle.answers.specs.Effect.{Effect, changed, written}
use Rattle.patch.specs.Patch.{length_row, field_rows, patch_rows}

-- Shown as text, 0..31 gives that number plus 64, and 32..63 gives itself.
unfoldable pub shown : ℕ → ℕ
shown b = cond (ltb b 32) (b + 64) b

-- The byte that is shown as a character of 32..95.
unfoldable pub stored : ℕ → ℕ
stored t = cond (ltb t 64) t (t - 64)

-- Some character of a text lies outside 32..95.
unfoldable pub any_outside : List ℕ → Bool
any_outside [] = false
any_outside (t ∷ ts) = (ltb t 32 || ltb 95 t) || any_outside ts

-- The tests of setting a name: the patch's length, the text, then the patch's fields.
abbrev pub name_rows : List ℕ → List ℕ → List Row
name_rows p text = length_row p ∷ row 7 (not (eqb (length text) 8)) ∷ row 8 (any_outside text) ∷ field_rows p

-- Setting a name in a lent patch.
unfoldable pub naming : List ℕ → List ℕ → Effect Outcome
naming p text = changed 0 (map stored text ++ drop 8 p) p (first (name_rows p text) (done 0 [] []))

-- Showing a name into a lent output: the patch's tests, then 13.
unfoldable pub showing : List ℕ → List ℕ → Effect Outcome
showing p out = written (patch_rows p) (map shown (take 8 p)) out
