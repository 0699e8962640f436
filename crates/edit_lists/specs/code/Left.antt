-- The parts that are left from a place on, for a pass over them.
use Rattle.std.specs.Prelude.{◌≡◌, cond, List, ℕ, ◌-◌, ◌/◌, ◌≤◌, ◌<◌}
use Rattle.fields.specs.Fields.{size}
use Rattle.patch.specs.Patch.{source_at}
use Rattle.edit_lists.specs.Plan.{is_parameter, parts_from, bus_at}

-- A place that such a pass comes to: from the first bus on, one at which a bus begins, or the patch's end.
abbrev pub Stands : ℕ → Type 0
Stands k = (8 ≤ k) × (k ≤ size) × (source_at 0 ≤ k → k ≡ source_at (bus_at k))

-- A place at which a parameter has its byte, or at which a bus begins.
abbrev pub IsPart : ℕ → Type 0
IsPart k = (8 ≤ k) × (k < size) × (source_at 0 ≤ k → k ≡ source_at (bus_at k))

-- How many parts there are from place k on, and which.
unfoldable pub count_left : ℕ → ℕ
count_left k = cond (is_parameter k) (114 - k) ((size - k) / 3)

unfoldable pub parts_left : ℕ → List ℕ
parts_left k = parts_from (count_left k) k

-- How long the message of the edit at a place is.
abbrev pub length_at : ℕ → ℕ
length_at k = cond (is_parameter k) 7 9
