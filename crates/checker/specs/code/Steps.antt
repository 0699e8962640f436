-- What the checker's steps leave.
use Rattle.std.specs.Prelude.{◌≡◌, Bool, true, false, cond, List, ℕ, eqb, length, drop, Option as Maybe, Some, None}
use Rattle.std.specs.Borrow.{Bor}
use Rattle.std.specs.Option.{option_map}
use Rattle.std.proofs.Math.Option.{Option, none, some}
use Rattle.edit_lists.specs.Lists.{Edit, message_for, applied, turned}
use Rattle.edit_lists.specs.Check.{edits_in}

-- What is left of some bytes behind the edit that they begin with, where it is allowed.
abbrev pub behind : Option Edit → List ℕ → List ℕ → Maybe (List ℕ)
behind none p s = None
behind (some e) p s = cond (eqb (applied e p).result.answer 0) (Some (drop (length (message_for e)) s)) None

abbrev pub left_by : Option Edit → List ℕ → List ℕ
left_by none p = p
left_by (some e) p = (applied e p).lent

pub record Follows (o : Option Edit) (p s : List ℕ) (r : Maybe (Bor (List ℕ))) (after : List ℕ) : Type 0 where
  pub rest : option_map (λ x. x.now) r ≡ behind o p s
  pub lent : after ≡ left_by o p

-- The last patch of bytes that are a list whose every edit is allowed in turn.
abbrev pub turned_by : Option (List Edit) → List ℕ → Option (List ℕ)
turned_by none p = none
turned_by (some es) p = turned es p

unfoldable pub last_patch : List ℕ → List ℕ → Option (List ℕ)
last_patch s p = turned_by (edits_in (length s) s) p

-- There is one, and the lent patch is it; or there is none.
abbrev pub Turns : Option (List ℕ) → Bool → List ℕ → Type 0
Turns none r after = r ≡ false
Turns (some q) r after = (r ≡ true) × (after ≡ q)
