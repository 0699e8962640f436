-- Units in a chain, each fed what the one before it sends on (02 (vii)).
use Rattle.std.specs.Prelude.{◌≡◌, Bool, true, cond, List, [], ◌∷◌, ℕ, suc, ◌+◌, ◌≤◌, eqb, ltb, length}
use Rattle.answers.specs.Table.{answer_of}
use Rattle.messages.specs.declared.kinds.Kind.TheVariants.{Short as of_short}
use Rattle.messages.specs.Kinds.{store_edit_buffer}
use Rattle.messages.specs.Judge.{judge}
use Rattle.messages.specs.Layout.{message}
use Rattle.units.specs.Units.{Unit, in_group, group_message}
use Rattle.units.specs.code.Steps.{steps}
use Rattle.units.specs.promises.Followed.{sent_by}

-- The units after a message came to the first of them: each makes the step that the routine tells.
abbrev pub chained : List Unit → List ℕ → List Unit
chained [] m = []
chained (u ∷ us) m = (steps u m 0).unit ∷ chained us (sent_by (steps u m 0))

-- What the last of them sends on.
abbrev pub last_sent : List Unit → List ℕ → List ℕ
last_sent [] m = m
last_sent (u ∷ us) m = last_sent us (sent_by (steps u m 0))

-- The units in the group with their numbers, from k on; bank and lock as they were.
abbrev pub numbered : ℕ → List Unit → List Unit
numbered k [] = []
numbered k (u ∷ us) = in_group k u ∷ numbered (suc k) us

-- What holds of the unit with its place in the chain, from k on.
abbrev pub Each : (ℕ → Unit → Type 0) → ℕ → List Unit → Type 0
Each P k [] = Prim.Unit {0}
Each P k (u ∷ us) = P k u × Each P (suc k) us

abbrev pub store_message : ℕ → ℕ → ℕ → List ℕ
store_message number bank id = message (of_short store_edit_buffer) (number ∷ bank ∷ id ∷ []) []

-- Whether a unit takes a store message as meant for it.
abbrev pub stores : ℕ → ℕ → ℕ → Unit → Bool
stores number bank id u = (steps u (store_message number bank id) 0).meant

-- A chain of n units, 2 to 6, in any state to begin with, fed one message with total n and ID 0.
pub record Chain (us : List Unit) : Type 0 where
  -- every unit is in the group with its number
  pub set : chained us (group_message (length us) 0) ≡ numbered 0 us
  pub each : Each (λ k u. (u.grouped ≡ true) × (u.number ≡ k)) 0 (chained us (group_message (length us) 0))
  -- the last of fewer than six sends on a message with its total as ID; the sixth sends nothing on
  pub last : last_sent us (group_message (length us) 0) ≡ cond (ltb (length us) 6) (group_message (length us) (length us)) []
  -- then a store message with 7FH is meant for every unit, and one with ID k for unit k alone
  pub store_any : (number bank : ℕ) → number ≤ 99 → bank ≤ 9 → Each (λ k u. stores number bank 0x7F u ≡ true) 0 (chained us (group_message (length us) 0))
  pub store_one : (number bank id : ℕ) → number ≤ 99 → bank ≤ 9 → id ≤ 5
      → Each (λ k u. stores number bank id u ≡ eqb id k) 0 (chained us (group_message (length us) 0))

pub record Chains : Type 0 where
  pub chain : (us : List Unit) → 2 ≤ length us → length us ≤ 6 → Chain us
  -- For any total, and from any ID on, as many units as have an ID: so for the first k of a chain, and for more or fewer units than the total says.
  pub from_any : (total id : ℕ) (us : List Unit) → 2 ≤ total → total ≤ 6 → id + length us ≤ 6 → chained us (group_message total id) ≡ numbered id us
  pub sent_from_any : (total id : ℕ) (us : List Unit) → 2 ≤ total → total ≤ 6 → 1 ≤ length us → id + length us ≤ 6
      → last_sent us (group_message total id) ≡ cond (ltb (id + length us) 6) (group_message total (id + length us)) []
  -- A message whose ID is its total is accepted, and so is every other in the two ranges.
  pub sent_accepted : (total id : ℕ) → 2 ≤ total → total ≤ 6 → id ≤ 5 → answer_of (judge (group_message total id)) ≡ 0
  -- Where nothing is sent on, the units behind stay as they were.
  pub nothing : (us : List Unit) → chained us [] ≡ us
