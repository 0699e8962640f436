-- Lists of edits: their bytes, and what they do to a patch.
use Rattle.std.specs.Prelude.{◌≡◌, cond, List, [], ◌∷◌, ◌++◌, ℕ, eqb}
use Rattle.std.proofs.Math.Option.{Option, none, some}
use Rattle.answers.specs.declared.Outcome.{Outcome}
use Rattle.answers.specs.Effect.{Effect}
use Rattle.edits.specs.Edits.{applying, applying_bus}
use Rattle.messages.specs.declared.kinds.Kind.TheVariants.{Short as of_short}
use Rattle.messages.specs.Kinds.{remote_edit, bus_edit}
use Rattle.messages.specs.Layout.{message}

-- A 06H or a 0BH edit.
pub data Edit : Type 0 where
  remote : (parameter v : ℕ) → Edit
  matrix : (bus source amount destination : ℕ) → Edit

-- Its message, as our writer writes it.
abbrev pub message_for : Edit → List ℕ
message_for (remote n v) = message (of_short remote_edit) (n ∷ v ∷ []) []
message_for (matrix b s a d) = message (of_short bus_edit) (b ∷ s ∷ a ∷ d ∷ []) []

-- A list is such messages end to end. Its length is their number.
unfoldable pub list_bytes : List Edit → List ℕ
list_bytes [] = []
list_bytes (e ∷ es) = message_for e ++ list_bytes es

-- What an edit does to a patch.
abbrev pub applied : Edit → List ℕ → Effect Outcome
applied (remote n v) p = applying n v p
applied (matrix b s a d) p = applying_bus b s a d p

-- What a list does to a patch, message by message: the last patch, where every edit is allowed in turn.
unfoldable pub turned : List Edit → List ℕ → Option (List ℕ)
turned [] p = some p
turned (e ∷ es) p = cond (eqb (applied e p).result.answer 0) (turned es (applied e p).lent) none

-- Accepted from a to b: every edit is allowed in turn and the last patch equals b.
abbrev pub Accepted : List ℕ → List ℕ → List Edit → Type 0
Accepted a b es = turned es a ≡ some b
