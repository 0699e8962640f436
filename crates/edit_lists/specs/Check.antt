-- The checker: which bytes are a list that is accepted.
use Rattle.std.specs.Prelude.{Bool, false, cond, not, List, [], ◌∷◌, ◌++◌, ℕ, zero, suc, length, get_or, take, drop}
use Rattle.std.proofs.Math.Option.{Option, none, some}
use Rattle.answers.specs.declared.Outcome.{Outcome}
use Rattle.answers.specs.Table.{row}
use Rattle.answers.specs.Effect.{tested}
use Rattle.pairs.specs.Pairs.{same_bytes, pair_rows}
use Rattle.edit_lists.specs.Lists.{Edit, remote, matrix, message_for, turned}

-- Bytes begin with a message, byte for byte.
abbrev pub begins : List ℕ → List ℕ → Bool
begins m s = same_bytes (take (length m) s) m

-- The edit that bytes are the message of, if they are that of a 06H edit; or of a 0BH edit.
abbrev pub as_remote : List ℕ → Edit
as_remote s = remote (get_or s 4 0) (get_or s 5 0)

abbrev pub as_matrix : List ℕ → Edit
as_matrix s = matrix (get_or s 4 0) (get_or s 5 0) (get_or s 6 0) (get_or s 7 0)

-- The edit whose message stands at the start of bytes.
unfoldable pub first_edit : List ℕ → Option Edit
first_edit s =
    cond (begins (message_for (as_remote s)) s) (some (as_remote s))
    (cond (begins (message_for (as_matrix s)) s) (some (as_matrix s)) none)

-- An edit before those of the rest.
abbrev pub before : Edit → Option (List Edit) → Option (List Edit)
before e none = none
before e (some es) = some (e ∷ es)

-- That edit, and those of the bytes behind its message.
abbrev pub and_behind : Option Edit → (List ℕ → Option (List Edit)) → List ℕ → Option (List Edit)
and_behind none those s = none
and_behind (some e) those s = before e (those (drop (length (message_for e)) s))

-- Where no byte is left there is no edit more.
abbrev pub or_end : List ℕ → Option (List Edit) → Option (List Edit)
or_end [] more = some []
or_end (x ∷ s) more = more

-- The edits of bytes that are such messages end to end and nothing else; at most n of them.
unfoldable pub edits_in : ℕ → List ℕ → Option (List Edit)
edits_in zero s = or_end s none
edits_in (suc n) s = or_end s (and_behind (first_edit s) (λ t. edits_in n t) s)

-- The last patch is b.
abbrev pub ends_in : List ℕ → Option (List ℕ) → Bool
ends_in b none = false
ends_in b (some q) = same_bytes q b

-- The edits of some bytes, if they are a list, turn a into b.
abbrev pub turn_into : List ℕ → List ℕ → Option (List Edit) → Bool
turn_into a b none = false
turn_into a b (some es) = ends_in b (turned es a)

-- Bytes are a list that is accepted from a to b.
unfoldable pub accepts : List ℕ → List ℕ → List ℕ → Bool
accepts a b s = turn_into a b (edits_in (length s) s)

-- The checker: the tests of both patches, then 20 for any list not accepted.
unfoldable pub checking : List ℕ → List ℕ → List ℕ → Outcome
checking a b s = tested (pair_rows a b ++ (row 20 (not (accepts a b s)) ∷ []))
