-- The two edits: their tests, which reading, writing and applying share, and what they change.
use Rattle.std.specs.Prelude.{cond, ◌||◌, List, [], ◌∷◌, ◌++◌, ℕ, ◌+◌, eqb, ltb, set}
use Rattle.std.proofs.Math.Option.{Option, none, some}
use Rattle.answers.specs.declared.Outcome.{Outcome}
use Rattle.answers.specs.Table.{Row, row, row_at, row_found, Found, done, first}
use Rattle.answers.specs.Effect.{Effect, changed}
use Rattle.ranges.specs.Ranges.{out_from}
use Rattle.fields.specs.Fields.{fields, place_of, missing}
use Rattle.patch.specs.Patch.{source_at, amount_at, destination_at, half_used, patch_rows}

-- From seven bits to eight: bit 6 is copied into bit 7.
unfoldable pub extended : ℕ → ℕ
extended v = cond (ltb v 64) v (v + 128)

-- The byte that a 06H edit stores. Parameter 21 is the one exception.
unfoldable pub stored_for : ℕ → ℕ → ℕ
stored_for parameter v = cond (eqb parameter 21) v (extended v)

-- The place k and the value of a byte there, where the byte does not lie in its range.
abbrev pub out_at : Option ℕ → ℕ → Option Found
out_at none b = none
out_at (some k) b = out_from fields k (b ∷ [])

-- The tests of a 06H edit: 8, then 11 with the value that it would store.
unfoldable pub edit_rows : ℕ → ℕ → List Row
edit_rows parameter v =
    row 8 (missing (place_of parameter) || ltb 127 v) ∷
    row_found 11 (out_at (place_of parameter) (stored_for parameter v)) ∷ []

-- The tests of the three bytes of a bus, the amount as stored: 11, then 12.
abbrev pub byte_rows : ℕ → ℕ → ℕ → ℕ → List Row
byte_rows bus source amount destination =
    row_found 11 (out_from fields (source_at bus) (source ∷ amount ∷ destination ∷ [])) ∷
    row_at 12 (cond (half_used source destination) (some bus) none) ∷ []

-- The tests of a 0BH edit: 8, 11, 12. 14 is withdrawn.
unfoldable pub bus_rows : ℕ → ℕ → ℕ → ℕ → List Row
bus_rows bus source amount destination =
    row 8 (ltb 9 bus || ltb 127 amount) ∷
    byte_rows bus source (extended amount) destination

-- A patch with one byte changed, at the place of a parameter.
abbrev pub with_byte : Option ℕ → ℕ → List ℕ → List ℕ
with_byte none b p = p
with_byte (some k) b p = set p k b

-- A patch with the three bytes of a bus changed.
unfoldable pub with_bus : ℕ → ℕ → ℕ → ℕ → List ℕ → List ℕ
with_bus bus source amount destination p =
    set (set (set p (source_at bus) source) (amount_at bus) (extended amount)) (destination_at bus) destination

-- Applying a 06H edit to a lent patch: the edit's own refusals, then the patch's.
unfoldable pub applying : ℕ → ℕ → List ℕ → Effect Outcome
applying parameter v p =
    changed 0 (with_byte (place_of parameter) (stored_for parameter v) p) p
    (first (edit_rows parameter v ++ patch_rows p) (done 0 [] []))

-- Applying a 0BH edit to a lent patch.
unfoldable pub applying_bus : ℕ → ℕ → ℕ → ℕ → List ℕ → Effect Outcome
applying_bus bus source amount destination p =
    changed 0 (with_bus bus source amount destination p) p
    (first (bus_rows bus source amount destination ++ patch_rows p) (done 0 [] []))
