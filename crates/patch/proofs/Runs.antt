-- What the table's rules make of a patch without a field out of range.
use Rattle.std.proofs.Common.{◌≡◌, ℕ, List, ◌∷◌, ◌++◌, length, zero-add, arith}
use mathlib.Core.Option.{none, some}
use Rattle.answers.specs.Table.{found}
use Rattle.ranges.proofs.Between.{MovedBy}
use Rattle.ranges.proofs.Runs.{runs_moved}
use Rattle.fields.specs.Fields.{fields, value_at}
use Rattle.fields.proofs.Rules.{rows, apart}
use Rattle.patch.specs.Patch.{first_out}

-- A byte that moved by 128 is the one field out of range of a patch that had none.
pub fields_moved : (p₁ : List ℕ) (b c : ℕ) (p₂ : List ℕ) → length (p₁ ++ b ∷ p₂) ≡ 134 → first_out (p₁ ++ b ∷ p₂) ≡ none → MovedBy 128 b c
    → first_out (p₁ ++ c ∷ p₂) ≡ some (found (length p₁) (value_at (length p₁) c))
fields_moved p₁ b c p₂ l e m = rw (zero-add (length p₁)) at (runs_moved fields apart 0 p₁ b c p₂ (omega (arith, rows)) e m)
