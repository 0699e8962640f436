-- Storing an edit in a patch whose fields are known to pass.
use Rattle.std.specs.Prelude.{◌≡◌, Bool, List, [], ◌∷◌, ◌++◌, ℕ, eqb}
use Rattle.answers.specs.declared.Outcome.{Outcome}
use Rattle.answers.specs.Table.{Row, done, first}
use Rattle.answers.specs.Effect.{Effect, changed}
use Rattle.fields.specs.Fields.{place_of}
use Rattle.patch.specs.Patch.{length_row}
use Rattle.edits.specs.Edits.{stored_for, edit_rows, bus_rows, with_byte, with_bus}

-- A 06H edit of a patch: its own refusals, then those of some rows. Likewise a 0BH edit.
abbrev pub editing : ℕ → ℕ → List Row → List ℕ → Effect Outcome
editing parameter v rows p =
    changed 0 (with_byte (place_of parameter) (stored_for parameter v) p) p
    (first (edit_rows parameter v ++ rows) (done 0 [] []))

abbrev pub editing_bus : ℕ → ℕ → ℕ → ℕ → List Row → List ℕ → Effect Outcome
editing_bus bus source amount destination rows p =
    changed 0 (with_bus bus source amount destination p) p
    (first (bus_rows bus source amount destination ++ rows) (done 0 [] []))

-- Where the fields are known to pass, only 7 is left of the patch's.
unfoldable pub storing : ℕ → ℕ → List ℕ → Effect Outcome
storing parameter v p = editing parameter v (length_row p ∷ []) p

unfoldable pub storing_bus : ℕ → ℕ → ℕ → ℕ → List ℕ → Effect Outcome
storing_bus bus source amount destination p = editing_bus bus source amount destination (length_row p ∷ []) p

-- What a call gave that tells only whether it was done.
pub record Stored (e : Effect Outcome) (r : Bool) (after : List ℕ) : Type 0 where
  pub told : r ≡ eqb e.result.answer 0
  pub lent : after ≡ e.lent
