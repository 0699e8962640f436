-- Request (ix), refusal 14 withdrawn: tables with their former row for it, which come to the same as without it.
use Rattle.std.specs.Prelude.{◌≡◌, cond, not, ◌||◌, List, [], ◌∷◌, ◌++◌, ℕ, eqb, ltb}
use Rattle.answers.specs.Lists.{All}
use Rattle.answers.specs.Table.{Row, row, number_of, Verdict, first}
use Rattle.fields.specs.Fields.{in_range}
use Rattle.patch.specs.Patch.{amount_at}
use Rattle.edits.specs.Edits.{extended, byte_rows, bus_rows}

-- The row: a 0BH amount outside -64..63 after extension. Amounts have the same range on every bus.
abbrev pub row14 : ℕ → Row
row14 amount = row 14 (not (in_range (amount_at 0) (extended amount)))

-- A table with it, just after 8. (One without 8 would have it at its end; none below is.)
abbrev pub with14 : ℕ → List Row → List Row
with14 amount [] = row14 amount ∷ []
with14 amount (r ∷ rows) = cond (eqb (number_of r) 8) (r ∷ row14 amount ∷ rows) (r ∷ with14 amount rows)

-- 8 is not among some rows.
abbrev pub No8 : List Row → Type 0
No8 rows = All (λ r. number_of r ≡ 8 → ⊥) rows

pub record SameTests : Type 0 where
  -- with it the tests of a 0BH edit are 8, 14, 11, 12 as they stood, so by themselves they have it no more
  pub former : (bus source amount destination : ℕ) → with14 amount (bus_rows bus source amount destination)
      ≡ row 8 (ltb 9 bus || ltb 127 amount) ∷ row14 amount ∷ byte_rows bus source (extended amount) destination
  -- whatever rows stand before and behind them, the verdict is the same
  pub same : (before : List Row) → No8 before → (bus source amount destination : ℕ) (behind : List Row) (v : Verdict)
      → let rows = before ++ (bus_rows bus source amount destination ++ behind) in first (with14 amount rows) v ≡ first rows v
