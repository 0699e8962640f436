-- A chain of units, unit by unit: each takes the ID that it is sent as its number, and sends on the next.
use mathlib.Core.Path.{◌≡◌, refl, ap, ◌∙◌, subst}
use mathlib.Core.Bool.{Bool, true, false, cond}
use mathlib.Core.List.{List, [], ◌∷◌}
use mathlib.Core.Logic.{inl, inr}
use Prim.Native.Nat.{ℕ, suc, ◌+◌, ◌≤◌}
use native.Mathlib.Omega.{arith}
use lib.Dec.{eqb, ltb}
use lib.ListN.{length}
use borrow.Author.Tests.{lt-ltb, le-ltb, ne_eqb, ltb-true, ltb-false}
use Rattle.answers.specs.Table.{answer_of}
use Rattle.operations.specs.declared.Operation.TheVariants.{Store as a_store}
use Rattle.operations.proofs.Numbers.{in_numbers}
use Rattle.messages.specs.Kinds.{kind_of}
use Rattle.messages.specs.Judge.{judge}
use Rattle.messages.proofs.Described.{described}
use Rattle.units.specs.Units.{Unit, Stepped, in_group, group_message, raised}
use Rattle.units.specs.promises.Chain.{chained, last_sent, numbered, Each, stores, Chain, Chains}
use Rattle.units.proofs.Sent.{told_sent}
use Rattle.units.proofs.Fed.{fed, group_step, nothing_step}

from_any : (total id : ℕ) (us : List Unit) → 2 ≤ total → total ≤ 6 → id + length us ≤ 6 → chained us (group_message total id) ≡ numbered id us
from_any total id [] l h n = refl
from_any total id (u ∷ []) l h n = rw (group_step total id l h (omega arith) u)
from_any total id (u ∷ v ∷ us) l h n =
    rw (told_sent u (group_message total id) 0, group_step total id l h (omega arith) u, lt-ltb id 5 (omega arith))
    (ap (◌∷◌ (in_group id u)) (from_any total (suc id) (v ∷ us) l h (omega arith)))

sent_from_any : (total id : ℕ) (us : List Unit) → 2 ≤ total → total ≤ 6 → 1 ≤ length us → id + length us ≤ 6
    → last_sent us (group_message total id) ≡ cond (ltb (id + length us) 6) (group_message total (id + length us)) []
sent_from_any total id [] l h m n = absurd (omega arith)
sent_from_any total id (u ∷ []) l h m n =
    let one : suc id ≡ id + length (u ∷ []) = omega arith in
    told_sent u (group_message total id) 0
    ∙ ap (λ (s : Stepped). s.sent) (group_step total id l h (omega arith) u)
    ∙ subst (λ n. raised total id ≡ cond (ltb n 6) (group_message total n) []) one (by_last (ltb id 5) refl)
  where
    by_last : (t : Bool) → ltb id 5 ≡ t → cond t (group_message total (suc id)) [] ≡ cond (ltb (suc id) 6) (group_message total (suc id)) []
    by_last true q = rw (lt-ltb (suc id) 6 (omega (arith, ltb-true id 5 q)))
    by_last false q = rw (le-ltb (suc id) 6 (omega (arith, ltb-false id 5 q)))
sent_from_any total id (u ∷ v ∷ us) l h m n =
    let next : suc id + length (v ∷ us) ≡ id + length (u ∷ v ∷ us) = omega arith in
    rw (told_sent u (group_message total id) 0, group_step total id l h (omega arith) u, lt-ltb id 5 (omega arith), ← next)
    (sent_from_any total (suc id) (v ∷ us) l h (omega arith) (omega arith))

nothing : (us : List Unit) → chained us [] ≡ us
nothing [] = refl
nothing (u ∷ us) = rw (told_sent u [] 0, nothing_step u) (ap (◌∷◌ u) (nothing us))

-- What holds of a unit of the group with any number holds of each with its own.
each_numbered : (P : ℕ → Unit → Type 0) → ((k : ℕ) (u : Unit) → P k (in_group k u)) → (k : ℕ) (us : List Unit) → Each P k (numbered k us)
each_numbered P h k [] = tt
each_numbered P h k (u ∷ us) = (h k u, each_numbered P h (suc k) us)

-- A store message to a unit of the group with number k.
meant_any : (number bank : ℕ) → number ≤ 99 → bank ≤ 9 → (k : ℕ) (u : Unit) → stores number bank 0x7F (in_group k u) ≡ true
unfolding kind_of
meant_any number bank n b k u =
    ap (λ (s : Stepped). s.meant) (fed 0x0E a_store refl (number ∷ bank ∷ 0x7F ∷ []) ((in_numbers.store number bank 0x7F).1 (n, b, inr refl)) (in_group k u))

meant_one : (number bank id : ℕ) → number ≤ 99 → bank ≤ 9 → id ≤ 5 → (k : ℕ) (u : Unit) → stores number bank id (in_group k u) ≡ eqb id k
unfolding kind_of
meant_one number bank id n b i k u =
    ap (λ (s : Stepped). s.meant) (fed 0x0E a_store refl (number ∷ bank ∷ id ∷ []) ((in_numbers.store number bank id).1 (n, b, inl i)) (in_group k u))
    ∙ rw (ne_eqb id 0x7F (λ e. omega arith))

chain : (us : List Unit) → 2 ≤ length us → length us ≤ 6 → Chain us
chain us l h =
    let set = from_any (length us) 0 us l h (omega arith) in
    let none : 0 + length us ≡ length us = omega arith in
    record {
      set = set;
      each = rw set (each_numbered _ (λ k u. (refl, refl)) 0 us);
      last = rw none at (sent_from_any (length us) 0 us l h (omega arith) (omega arith));
      store_any = λ number bank n b. rw set (each_numbered _ (meant_any number bank n b) 0 us);
      store_one = λ number bank id n b i. rw set (each_numbered _ (meant_one number bank id n b i) 0 us);
    }

sent_accepted : (total id : ℕ) → 2 ≤ total → total ≤ 6 → id ≤ 5 → answer_of (judge (group_message total id)) ≡ 0
sent_accepted total id l h i = rw (described.group (total ∷ id ∷ []), (in_numbers.group total id).1 (l, h, i))

pub chains : Chains
chains = record { chain = chain; from_any = from_any; sent_from_any = sent_from_any; sent_accepted = sent_accepted; nothing = nothing }
