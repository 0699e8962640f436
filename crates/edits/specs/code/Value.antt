-- The tests of a remote edit whose place is found.
use Rattle.std.specs.Prelude.{List, [], ◌∷◌, ℕ, ltb}
use Rattle.std.proofs.Math.Option.{some}
use Rattle.answers.specs.Table.{Row, row, row_found}
use Rattle.edits.specs.Edits.{stored_for, out_at}

-- The tests of the value of a 06H edit whose field stands at place k: 8, then 11.
unfoldable pub value_rows : ℕ → ℕ → ℕ → List Row
value_rows k parameter v = row 8 (ltb 127 v) ∷ row_found 11 (out_at (some k) (stored_for parameter v)) ∷ []
