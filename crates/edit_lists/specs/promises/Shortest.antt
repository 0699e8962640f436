-- Request (v): the planner's list is accepted, and no accepted list is shorter.
use Rattle.std.specs.Prelude.{◌≡◌, Bool, false, cond, not, List, [], ◌∷◌, ◌++◌, ◌↔◌, ℕ, zero, suc, ◌+◌, ◌≤◌, ◌<◌, eqb, length, get_or, take, drop}
use Rattle.std.proofs.Math.Option.{Option, none, some}
use Rattle.answers.specs.declared.Outcome.{Outcome}
use Rattle.answers.specs.Table.{outcome}
use Rattle.answers.specs.Effect.{tested, at_start}
use Rattle.fields.specs.Fields.{place_of}
use Rattle.patch.specs.Patch.{source_at, patch_rows}
use Rattle.pairs.specs.Pairs.{same_bytes, name_of}
use Rattle.edit_lists.specs.Lists.{Edit, remote, matrix, list_bytes, applied, Accepted}
use Rattle.edit_lists.specs.Plan.{plan, planning}
use Rattle.edit_lists.specs.Check.{checking}

-- A patch that passes its tests.
abbrev pub Good : List ℕ → Type 0
Good p = tested (patch_rows p) ≡ outcome 0 0

-- How many of the numbers below n pass a test.
unfoldable pub count_below : ℕ → (ℕ → Bool) → ℕ
count_below zero test = 0
count_below (suc n) test = cond (test n) 1 0 + count_below n test

-- Parameter n differs; one without a byte does not.
abbrev pub byte_differs : List ℕ → List ℕ → Option ℕ → Bool
byte_differs a b none = false
byte_differs a b (some k) = not (eqb (get_or a k 0) (get_or b k 0))

abbrev pub parameter_differs : List ℕ → List ℕ → ℕ → Bool
parameter_differs a b n = byte_differs a b (place_of n)

-- Bus c differs, in one of its three bytes or more.
abbrev pub bus_differs : List ℕ → List ℕ → ℕ → Bool
bus_differs a b c = not (same_bytes (take 3 (drop (source_at c) a)) (take 3 (drop (source_at c) b)))

-- Bytes are the messages of a list of edits that is accepted from a to b.
pub record Listed (a b s : List ℕ) : Type 0 where
  pub edits : List Edit
  pub bytes : list_bytes edits ≡ s
  pub accepted : Accepted a b edits

-- The bytes that a planner's call has written.
abbrev pub planned : List ℕ → List ℕ → List ℕ → List ℕ
planned a b out = let e = planning a b out in take e.result.detail e.lent

-- Both patches are tested first, a before b, each with its own 7, 11 or 12, detail and value; then 16.
pub record TestedFirst (a b : List ℕ) (o : Outcome) : Type 0 where
  pub first : (Good a → ⊥) → o ≡ tested (patch_rows a)
  pub second : Good a → (Good b → ⊥) → o ≡ tested (patch_rows b)
  pub names : Good a → Good b → (name_of a ≡ name_of b → ⊥) → o ≡ outcome 16 0

-- Two good patches of one name.
abbrev pub Pair : List ℕ → List ℕ → Type 0
Pair a b = Good a × Good b × (name_of a ≡ name_of b)

-- The byte place at which an edit changes a patch: that of its parameter, or of its bus's source.
abbrev pub changed_at : Edit → Option ℕ
changed_at (remote n v) = place_of n
changed_at (matrix b s a d) = some (source_at b)

-- Edits by rising byte place, the first at place m or behind it.
abbrev pub Rises : ℕ → List Edit → Type 0
Rises m [] = Unit {0}
Rises m (e ∷ es) = (k : ℕ) × (changed_at e ≡ some k) × (m ≤ k) × Rises (suc k) es

-- An edit of an accepted list: those before it lead to a patch p, in which it is allowed, and those behind it lead on from there.
pub record InTurn (a b : List ℕ) (xs : List Edit) (e : Edit) (ys : List Edit) : Type 0 where
  pub patch : List ℕ
  pub before : Accepted a patch xs
  pub allowed : (applied e patch).result ≡ outcome 0 0
  pub behind : Accepted (applied e patch).lent b ys

pub record ShortestList : Type 0 where
  -- the checker accepts exactly the bytes of a list, whoever made it, that turns one good patch into another; any other list is 20
  pub exactly : (a b s : List ℕ) → ((checking a b s).answer ≡ 0) ↔ (Good a × Good b × Listed a b s)
  pub not_accepted : (a b s : List ℕ) → ((checking a b s).answer ≡ 20) ↔ (Pair a b × (Listed a b s → ⊥))
  -- every edit of an accepted list is allowed in turn
  pub in_turn : (a b : List ℕ) (xs : List Edit) (e : Edit) (ys : List Edit) → Accepted a b (xs ++ e ∷ ys) → InTurn a b xs e ys
  -- the same bytes are never two different lists, so their number is a list's length
  pub one_list : (xs ys : List Edit) → list_bytes xs ≡ list_bytes ys → xs ≡ ys
  -- between two good patches of one name the planner's list is accepted; it is written wherever there is room, and else refused by 13
  pub accepted : (a b : List ℕ) → Pair a b → checking a b (list_bytes (plan a b)) ≡ outcome 0 0
  pub written : (a b out : List ℕ) → Pair a b → length (list_bytes (plan a b)) ≤ length out
      → planning a b out ≡ record { result = outcome 0 (length (list_bytes (plan a b))); lent = at_start (list_bytes (plan a b)) out }
  pub no_room : (a b out : List ℕ) → ((planning a b out).result.answer ≡ 13) ↔ (Pair a b × (length out < length (list_bytes (plan a b))))
  -- so what a planner's call that is done has written is accepted
  pub proposed : (a b out : List ℕ) → (planning a b out).result.answer ≡ 0 → checking a b (planned a b out) ≡ outcome 0 0
  -- by rising byte place
  pub rising : (a b : List ℕ) → Rises 8 (plan a b)
  -- no list that the checker accepts is shorter
  pub none_shorter : (a b : List ℕ) (es : List Edit) → (checking a b (list_bytes es)).answer ≡ 0 → length (plan a b) ≤ length es
  -- its number is that of the parameters and the buses that differ
  pub counted : (a b : List ℕ) → Good a → Good b → length (plan a b) ≡ count_below 100 (parameter_differs a b) + count_below 10 (bus_differs a b)
  -- between good patches of one name it is empty exactly when they are equal
  pub empty : (a b : List ℕ) → Pair a b → (plan a b ≡ []) ↔ (a ≡ b)
  -- a list from a to b and one from b to c, joined, is accepted from a to c
  pub joined : (a b c s t : List ℕ) → (checking a b s).answer ≡ 0 → (checking b c t).answer ≡ 0 → checking a c (s ++ t) ≡ outcome 0 0
  -- both answer for the patches first; 16 exactly when both patches are good and their names differ
  pub checker_first : (a b s : List ℕ) → TestedFirst a b (checking a b s)
  pub planner_first : (a b out : List ℕ) → TestedFirst a b (planning a b out).result
  pub checker_16 : (a b s : List ℕ) → ((checking a b s).answer ≡ 16) ↔ (Good a × Good b × (name_of a ≡ name_of b → ⊥))
  pub planner_16 : (a b out : List ℕ) → ((planning a b out).result.answer ≡ 16) ↔ (Good a × Good b × (name_of a ≡ name_of b → ⊥))
