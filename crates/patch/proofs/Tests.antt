-- The tests of a patch as rows of a table of answers, and what rows that say nothing tell of the patch.
use Rattle.std.proofs.Common.{◌≡◌, ℕ, List, [], ◌∷◌, length, ℤ, arith, eq-eqb}
use mathlib.Core.Option.{none, some}
use Rattle.answers.specs.Table.{row_at, found, outcome_at}
use Rattle.answers.specs.Effect.{tested}
use Rattle.answers.proofs.Rows.{Refusals, row_at_silent, row_found_silent, row_equal}
use Rattle.answers.specs.promises.Decides.{Silent}
use Rattle.patch.specs.Patch.{first_out, first_half, field_rows, patch_rows}

module _ (p : List ℕ) where
  -- A byte out of range gives the answer, whatever the buses are; where there is none, they do.
  pub fields_out : (k : ℕ) (v : ℤ) → first_out p ≡ some (found k v) → tested (field_rows p) ≡ outcome_at 11 k v
  fields_out k v e = rw e

  pub fields_in : first_out p ≡ none → tested (field_rows p) ≡ tested (row_at 12 (first_half p) ∷ [])
  fields_in e = rw e

  -- The rows of a patch's fields, and of a lent patch, are refusals.
  pub field_refusals : Refusals (field_rows p)
  field_refusals = omega arith

  pub patch_refusals : Refusals (patch_rows p)
  patch_refusals = omega arith

  -- Of 134 bytes only those of the fields say anything.
  pub fields_tested : length p ≡ 134 → tested (patch_rows p) ≡ tested (field_rows p)
  fields_tested l = rw (eq-eqb (length p) 134 l)

  -- Where those of the fields say nothing, each byte is in range and no bus half used; and the other way round.
  pub fields_pass : Silent (field_rows p) → (first_out p ≡ none) × (first_half p ≡ none)
  fields_pass a = (row_found_silent 11 (first_out p) a.0, row_at_silent 12 (first_half p) a.1.0)

  pub fields_silent : first_out p ≡ none → first_half p ≡ none → Silent (field_rows p)
  fields_silent e f = (rw e, (rw f, tt))

  -- Where those of a lent patch say nothing, it has 134 bytes besides; and the other way round.
  pub patch_length : Silent (patch_rows p) → length p ≡ 134
  patch_length a = row_equal 7 (length p) 134 a.0

  pub patch_silent : length p ≡ 134 → first_out p ≡ none → first_half p ≡ none → Silent (patch_rows p)
  patch_silent l e f = (rw (eq-eqb (length p) 134 l), fields_silent e f)
