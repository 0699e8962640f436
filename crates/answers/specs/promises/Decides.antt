-- What is said of a routine that has a table: its first row that says anything decides, and a refused call changes nothing.
use Rattle.std.specs.Prelude.{◌≡◌, List, ◌∷◌, ◌++◌, ◌↔◌, ℕ, drop}
use Rattle.std.proofs.Math.Option.{none, some}
use Rattle.answers.specs.declared.Outcome.{Outcome}
use Rattle.answers.specs.Lists.{All}
use Rattle.answers.specs.Table.{Row, says, outcome}

-- No row says anything.
abbrev pub Silent : List Row → Type 0
Silent rows = All (λ (r : Row). says r ≡ none) rows

-- Some row says o, and no row before it says anything.
pub record FirstSays (rows : List Row) (o : Outcome) : Type 0 where
  pub before : List Row
  pub here : Row
  pub after : List Row
  pub split : rows ≡ before ++ here ∷ after
  pub silent : Silent before
  pub said : says here ≡ some o

-- Refused, every lent byte is the same; done, those behind the first n are.
pub record Keeps (answer n : ℕ) (old after : List ℕ) : Type 0 where
  pub refused : (answer ≡ 0 → ⊥) → after ≡ old
  pub behind : answer ≡ 0 → drop n after ≡ drop n old

-- The outcome of a routine is that of its table: any other answer than 0 is given, with its detail and value, exactly when a row says so and no row
-- before it says anything; 0 exactly when no row does, with this detail and the value 0.
pub record Decides (rows : List Row) (detail : ℕ) (o : Outcome) : Type 0 where
  pub refuses : (r : Outcome) → (r.answer ≡ 0 → ⊥) → (o ≡ r) ↔ FirstSays rows r
  pub is_done : (o.answer ≡ 0) ↔ Silent rows
  pub with_detail : o.answer ≡ 0 → o ≡ outcome 0 detail
