-- The bytes of the edits for some parts: those for the first come first.
use Rattle.std.proofs.Common.{◌≡◌, ℕ, ◌+◌, List, [], ◌∷◌, ◌++◌, map, length, refl, arith}
use Rattle.std.proofs.Math.ListN.{length-append}
use Rattle.edit_lists.specs.Lists.{message_for, list_bytes}
use Rattle.edit_lists.specs.Plan.{parts, differing, reaching, plan}
use Rattle.edit_lists.specs.code.Left.{IsPart, length_at}
use Rattle.edit_lists.proofs.Left.{message_length}

unfoldable pub edits_for : List ℕ → List ℕ → List ℕ
edits_for b ks = list_bytes (map (reaching b) ks)

pub all_edits : (a b : List ℕ) → edits_for b (differing parts a b) ≡ list_bytes (plan a b)
unfolding edits_for plan
all_edits a b = refl

pub no_edits : (b : List ℕ) → edits_for b [] ≡ []
unfolding edits_for list_bytes
no_edits b = refl

pub first_edit : (b : List ℕ) (k : ℕ) (ks : List ℕ) → edits_for b (k ∷ ks) ≡ message_for (reaching b k) ++ edits_for b ks
unfolding edits_for list_bytes
first_edit b k ks = refl

pub first_length : (b : List ℕ) (k : ℕ) (ks : List ℕ) → IsPart k → length (edits_for b (k ∷ ks)) ≡ length_at k + length (edits_for b ks)
first_length b k ks p = rw first_edit (omega (arith, length-append {A = ℕ}, message_length b k p))
