-- What a pass over bytes without a branch tells, and what it has seen where its flag stays clear.
use Rattle.std.specs.Prelude.{◌≡◌, ℕ, ◌<◌, ◌≤◌, Bool, true, false, ◌&&◌, List, length, ◌==◌, slice_index}
use Rattle.std.proofs.Math.Option.{Option, none, some}
use Rattle.answers.specs.Table.{Found}
use Rattle.ranges.specs.Ranges.{Table, in_row, out_from}

-- Each byte from place i to before place n lies in the range of its row.
abbrev pub InRows : Table → ℕ → ℕ → List ℕ → Type 0
InRows t i n p = (k : ℕ) → i ≤ k → k < n → in_row t k (slice_index p k) ≡ true

-- A search found nothing.
abbrev pub nothing : Option Found → Bool
nothing none = true
nothing (some f) = false

-- So many bytes, none of them out of range.
abbrev pub all_in : ℕ → Table → List ℕ → Bool
all_in count t p = length p == count && nothing (out_from t 0 p)
