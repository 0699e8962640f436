-- What a search over bytes finds, as the code answers it; and a table as it is lent.
use Rattle.std.specs.Prelude.{[], ◌∷◌, ℕ, Option as Maybe, Some, None}
use Rattle.std.proofs.Math.Option.{Option, none, some}
use denote.Ref.{Bor}
use Rattle.answers.specs.Table.{Found, found}
use Rattle.answers.specs.declared.Found.{Found as FoundThere}
use Rattle.ranges.specs.Ranges.{Table}

abbrev pub found_at : Option ℕ → Maybe ℕ
found_at (some k) = Some k
found_at none = None

abbrev pub found_in : Option Found → Maybe FoundThere
found_in (some (found k v)) = Some (record { place = k; value = v })
found_in none = None

-- A lent table; one without rows is none.
abbrev pub lent_table : Table → Option Table
lent_table [] = none
lent_table (r ∷ t) = some (r ∷ t)

-- A table that may be lent.
abbrev pub table_in : Maybe (Bor Table) → Option Table
table_in (Some t) = lent_table t.now
table_in None = none
