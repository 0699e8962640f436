-- The planner's list: one message for each differing parameter and one for each differing bus, by rising byte place.
use Rattle.std.specs.Prelude.{Bool, cond, List, [], ◌∷◌, map, ℕ, zero, suc, ◌+◌, ◌-◌, ◌/◌, ◌%◌, ltb, get_or, take, drop}
use Rattle.answers.specs.declared.Outcome.{Outcome}
use Rattle.answers.specs.Effect.{Effect, written}
use Rattle.fields.specs.Fields.{parameter_at}
use Rattle.patch.specs.Patch.{source_at, amount_at, destination_at}
use Rattle.pairs.specs.Pairs.{same_bytes, pair_rows}
use Rattle.edit_lists.specs.Lists.{Edit, remote, matrix, list_bytes}

-- A part of a patch is what one edit changes: the byte of a parameter, at 8..103, or the three bytes of a bus, from 104 on. It is named by its first
-- byte place.
abbrev pub is_parameter : ℕ → Bool
is_parameter k = ltb k (source_at 0)

abbrev pub width_of : ℕ → ℕ
width_of k = cond (is_parameter k) 1 3

-- The n parts from place k on, by rising byte place.
unfoldable pub parts_from : ℕ → ℕ → List ℕ
parts_from zero k = []
parts_from (suc n) k = k ∷ parts_from n (k + width_of k)

-- All parts: 96 parameters and ten buses.
unfoldable pub parts : List ℕ
parts = parts_from 106 8

-- The bytes that the part at place k has in a patch; and whether they are the same in two.
abbrev pub bytes_at : ℕ → List ℕ → List ℕ
bytes_at k p = take (width_of k) (drop k p)

abbrev pub same_at : ℕ → List ℕ → List ℕ → Bool
same_at k a b = same_bytes (bytes_at k a) (bytes_at k b)

-- Those of some parts in which two patches differ.
unfoldable pub differing : List ℕ → List ℕ → List ℕ → List ℕ
differing [] a b = []
differing (k ∷ ks) a b = cond (same_at k a b) (differing ks a b) (k ∷ differing ks a b)

-- The bus whose source stands at place k.
abbrev pub bus_at : ℕ → ℕ
bus_at k = (k - source_at 0) / 3

-- A byte in seven bits, as an edit sends it.
abbrev pub sent : ℕ → ℕ
sent b = b % 128

-- The 0BH edit that gives bus c the bytes that it has in patch b.
abbrev pub reaching_bus : List ℕ → ℕ → Edit
reaching_bus b c = matrix c (get_or b (source_at c) 0) (sent (get_or b (amount_at c) 0)) (get_or b (destination_at c) 0)

-- The edit that gives the part at place k the bytes that it has in patch b.
abbrev pub reaching : List ℕ → ℕ → Edit
reaching b k = cond (is_parameter k) (remote (parameter_at k) (sent (get_or b k 0))) (reaching_bus b (bus_at k))

-- The planner's list.
unfoldable pub plan : List ℕ → List ℕ → List Edit
plan a b = map (reaching b) (differing parts a b)

-- The planner: the tests of both patches, then 13. Done, its detail is the bytes written, and the bytes behind them are kept.
unfoldable pub planning : List ℕ → List ℕ → List ℕ → Effect Outcome
planning a b out = written (pair_rows a b) (list_bytes (plan a b)) out
