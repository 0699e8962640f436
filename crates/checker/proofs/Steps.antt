-- The steps of the checker: one message more is followed, until no byte is left or none is taken.
use mathlib.Core.Path.{◌≡◌, refl, sym, ap, ◌∙◌}
use mathlib.Core.Bool.{Bool, true, false, cond, not, ◌&&◌}
use mathlib.Core.List.{List, [], ◌∷◌}
use mathlib.Core.Option.{Option, none, some}
use Rattle.std.specs.Prelude.{Option as Maybe, Some, None}
use Rattle.std.specs.Option.{option_map}
use Rattle.std.specs.Bool.{then_some}
use Rattle.std.specs.Borrow.{Bor}
use Prim.Native.Nat.{ℕ, suc, ◌-◌, ◌≤◌, ◌<◌}
use native.Mathlib.Omega.{arith}
use lib.Dec.{eqb}
use lib.ListN.{length, drop, length-drop}
use borrow.Author.Tests.{eqb-true}
use Rattle.answers.specs.declared.Outcome.{Outcome}
use Rattle.answers.specs.Table.{row, done}
use Rattle.answers.specs.Effect.{tested}
use Rattle.answers.specs.promises.Decides.{Silent}
use Rattle.answers.proofs.Rows.{passed_over, tested_stopped}
use Rattle.edits.specs.code.Storing.{Stored}
use Rattle.pairs.specs.Pairs.{same_bytes, pair_rows}
use Rattle.edit_lists.specs.Lists.{Edit, message_for, applied, turned}
use Rattle.edit_lists.specs.Check.{first_edit, before, and_behind, edits_in, ends_in, turn_into, accepts, checking}
use Rattle.edit_lists.specs.promises.Shortest.{Good}
use Rattle.edit_lists.proofs.Reach.{one_changed}
use Rattle.edit_lists.proofs.Bytes.{message_some, edits_none, edits_first, edits_enough}
use Rattle.checker.specs.code.Steps.{behind, left_by, Follows, turned_by, last_patch, Turns}

-- What following an edit gives, by what storing it told.
module _ (o : Option Edit) (e : Edit) (p s : List ℕ) (told : Bool) (after : List ℕ) (found : o ≡ some e)
    (gave : Stored (applied e p) told after) where
  pub follows_stored : (rest : Bor (List ℕ)) → rest.now ≡ drop (length (message_for e)) s → (r : Maybe (Bor (List ℕ)))
      → r ≡ then_some told rest → Follows o p s r after
  follows_stored rest l r t = rw (found, t) (record { rest = by told gave.told; lent = gave.lent })
    where
      by : (v : Bool) → v ≡ eqb (applied e p).result.answer 0 → option_map (λ x. x.now) (then_some v rest) ≡ behind (some e) p s
      by true q = rw (sym q, l) refl
      by false q = rw (sym q) refl

pub follows_none : (o : Option Edit) (p s : List ℕ) → o ≡ none → Follows o p s None p
follows_none o p s e = rw e (record { rest = refl; lent = refl })

-- The last patch, by the first edit: it is allowed, and the rest goes on from there.
abbrev onward : Option Edit → List ℕ → List ℕ → Option (List ℕ)
onward none s p = none
onward (some e) s p = cond (eqb (applied e p).result.answer 0) (last_patch (drop (length (message_for e)) s) (applied e p).lent) none

turned_before : (e : Edit) (o : Option (List Edit)) (p : List ℕ)
    → turned_by (before e o) p ≡ cond (eqb (applied e p).result.answer 0) (turned_by o (applied e p).lent) none
unfolding turned
turned_before e none p = go (eqb (applied e p).result.answer 0)
  where
    go : (t : Bool) → ◌≡◌ {A = Option (List ℕ)} none (cond t none none)
    go true = refl
    go false = refl
turned_before e (some es) p = refl

last_first : (s p : List ℕ) → 0 < length s → last_patch s p ≡ onward (first_edit s) s p
unfolding last_patch
last_first s p h =
    let n = length s - 1 in
    let one : length s ≡ suc n = omega arith in
    ap (λ (o : Option (List Edit)). turned_by o p) (ap (λ (m : ℕ). edits_in m s) one ∙ edits_first n s h) ∙ go (first_edit s)
  where
    go : (o : Option Edit) → turned_by (and_behind o (edits_in (length s - 1)) s) p ≡ onward o s p
    go none = refl
    go (some e) =
        let rest = drop (length (message_for e)) s in
        let m = message_some e in
        let short : length rest ≤ length s - 1 = omega (arith, length-drop (length (message_for e)) s) in
        rw (edits_enough (length s - 1) (length rest) rest short (omega arith)) (turned_before e (edits_in (length rest) rest) p)

-- What is left of a list: its last patch is that of the bytes from place `at` on, from the patch at hand.
pub last_none : (s p : List ℕ) → length s ≡ 0 → last_patch s p ≡ some p
unfolding last_patch turned
last_none [] p h = rw (edits_none 0)
last_none (x ∷ s) p h = absurd (omega arith)

-- The first edit is not there or refused: there is no last patch.
pub last_stop : (s p after : List ℕ) → 0 < length s → Follows (first_edit s) p s None after → last_patch s p ≡ none
last_stop s p after h f = last_first s p h ∙ go (first_edit s) f.rest
  where
    go : (o : Option Edit) → None ≡ behind o p s → onward o s p ≡ none
    go none z = refl
    go (some e) z = by (eqb (applied e p).result.answer 0) z
      where
        by : (t : Bool) → None ≡ cond t (Some (drop (length (message_for e)) s)) None
            → cond t (last_patch (drop (length (message_for e)) s) (applied e p).lent) none ≡ none
        by true z = cc
        by false z = refl

-- It is allowed: the bytes behind it are fewer, the last patch is theirs from there, and the patch then passes its tests.
pub record Onward (s p rest after : List ℕ) : Type 0 where
  pub fewer : length rest < length s
  pub last : last_patch s p ≡ last_patch rest after
  pub good : Good after

pub last_next : (s p after : List ℕ) (rest : Bor (List ℕ)) → 0 < length s → Follows (first_edit s) p s (Some rest) after → Onward s p rest.now after
last_next s p after rest h f = go (first_edit s) refl f.rest f.lent
  where
    go : (o : Option Edit) → first_edit s ≡ o → Some rest.now ≡ behind o p s → after ≡ left_by o p → Onward s p rest.now after
    go none q t k = cc
    go (some e) q t k = by (eqb (applied e p).result.answer 0) refl t
      where
        by : (v : Bool) → eqb (applied e p).result.answer 0 ≡ v → Some rest.now ≡ cond v (Some (drop (length (message_for e)) s)) None
            → Onward s p rest.now after
        by false w t = cc
        by true w t =
            let same : rest.now ≡ drop (length (message_for e)) s = cc in
            let m = message_some e in
            rw (same, k)
            (record {
              fewer = omega (arith, length-drop (length (message_for e)) s);
              last = last_first s p h ∙ rw (q, w) refl;
              good = (one_changed e p (eqb-true (applied e p).result.answer 0 w)).1.good;
            })

-- The checker's answer behind a pair that passes, by what turning gave.
module _ (a b s : List ℕ) where
  accepts_last : accepts a b s ≡ ends_in b (last_patch s a)
  unfolding accepts last_patch
  accepts_last = go (edits_in (length s) s)
    where
      go : (o : Option (List Edit)) → turn_into a b o ≡ ends_in b (turned_by o a)
      go none = refl
      go (some es) = refl

  pub decided : (r : Bool) (after : List ℕ) → Turns (last_patch s a) r after → accepts a b s ≡ (r && same_bytes after b)
  decided r after t = accepts_last ∙ go (last_patch s a) t
    where
      go : (o : Option (List ℕ)) → Turns o r after → ends_in b o ≡ (r && same_bytes after b)
      go none t = rw t refl
      go (some q) t = rw (t.0, t.1) refl

  pub pair_stops : (r : Outcome) → r ≡ tested (pair_rows a b) → (r.answer ≡ 0 → ⊥) → r ≡ checking a b s
  unfolding checking
  pair_stops r e n = e ∙ sym (tested_stopped (pair_rows a b) (row 20 (not (accepts a b s)) ∷ []) (λ z. n (ap (λ (o : Outcome). o.answer) e ∙ z)))

  pub list_decides : Silent (pair_rows a b) → (t : Bool) → accepts a b s ≡ t → checking a b s ≡ tested (row 20 (not t) ∷ [])
  unfolding checking
  list_decides q t f = rw (passed_over (pair_rows a b) (row 20 (not (accepts a b s)) ∷ []) (done 0 [] []) q, f) refl
