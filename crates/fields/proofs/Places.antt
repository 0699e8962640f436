-- The place of a parameter, as the lookup finds it; and as one number, 255 where there is none, which is no place.
use Rattle.std.proofs.Common.{◌≡◌, ℕ, ◌<◌, ◌≤◌, Bool, true, false, cond, ◌||◌, List, map, length, get_or, ltb, leb, sym, refl, ap, ◌∙◌, arith, ltb-false, ltb-true, lt-ltb}
use mathlib.Core.Option.{Option, none, some}
use lib.ListN.{get_or-eq_default}
use Rattle.std.specs.List.{range_with_len}
use Rattle.std.proofs.lemmas.List.FromFn.{get_or-map-range_with_len}
use Rattle.std.specs.Prelude.{Option as Maybe, Some, None, Result, Ok, Err, ok_or}
use Rattle.answers.specs.declared.Refusal.{Refusal}
use Rattle.answers.specs.declared.Refusal.TheVariants.{NotAllowed}
use Rattle.std.proofs.lemmas.Option.{none-some, same_Some}
use Rattle.fields.specs.Fields.{place_of, parameter_of, parameter_at, size}
use Rattle.fields.specs.declared.BytePlace.{BytePlace}
use Rattle.fields.specs.code.Lookups.{found_place, or_none}
use Rattle.fields.proofs.Rules.{place_is_found}

-- A lookup that found a place found the definition's.
pub found_there : (o : Option ℕ) (f : Maybe BytePlace) (r : BytePlace) → f ≡ Some r → f ≡ found_place o → o ≡ some r.0
found_there none f r e q = absurd (none-some r (sym q ∙ e))
found_there (some k) f r e q = ap some (ap (λ (p : BytePlace). p.0) (same_Some (record { 0 = k }) r (sym q ∙ e)))

-- One that found none: nor does the definition.
pub found_nowhere : (o : Option ℕ) (f : Maybe BytePlace) → f ≡ None → f ≡ found_place o → o ≡ none
found_nowhere none f e q = refl
found_nowhere (some k) f e q = absurd (none-some (record { 0 = k }) (sym e ∙ q))

-- A lookup that is refused with 8 where it finds nothing.
module _ (o : Option ℕ) (f : Maybe BytePlace) (r : Result BytePlace Refusal) (e : f ≡ found_place o) (q : r ≡ ok_or f NotAllowed) where
  pub place_refused : (x : Refusal) → r ≡ Err x → (o ≡ none) × (x ≡ NotAllowed)
  place_refused x w = go o (rw e at q)
    where
      go : (o : Option ℕ) → r ≡ ok_or (found_place o) NotAllowed → (o ≡ none) × (x ≡ NotAllowed)
      go none k = (refl, cc)
      go (some n) k = cc

  pub place_given : (x : BytePlace) → r ≡ Ok x → o ≡ some x.0
  place_given x w = go o (rw e at q)
    where
      go : (o : Option ℕ) → r ≡ ok_or (found_place o) NotAllowed → o ≡ some x.0
      go none k = cc
      go (some n) k = let same : x ≡ record { 0 = n } = cc in rw same

-- What is 255 as one number is none, and what is not is that number.
pub numbered_none : (o : Option ℕ) → (o ≡ some 255 → ⊥) → or_none o ≡ 255 → o ≡ none
numbered_none none n e = refl
numbered_none (some k) n e = absurd (n (ap some e))

pub numbered_some : (o : Option ℕ) → (or_none o ≡ 255 → ⊥) → o ≡ some (or_none o)
numbered_some none d = absurd (d refl)
numbered_some (some k) d = refl

-- 255 is no place.
pub no_place_255 : (n : ℕ) → place_of n ≡ some 255 → ⊥
no_place_255 n e = let h = (place_is_found n 255 e).high in omega arith

-- A place whose row has 255 has no parameter.
pub no_parameter_at : (k : ℕ) → parameter_at k ≡ 255 → parameter_of k ≡ none
unfolding parameter_of
no_parameter_at k e = rw e (go (leb size k))
  where
    go : (t : Bool) → cond {A = Option ℕ} (t || true) none (some 255) ≡ none
    go true = refl
    go false = refl

-- No parameter above 99 has a place.
pub place_past : (n : ℕ) → 99 < n → place_of n ≡ none
unfolding place_of
place_past n h = simp (lt-ltb 99 n h)

-- The places of the parameters 0..99 as the code lists them.
abbrev pub place_bytes : List ℕ
place_bytes = map (λ (n : ℕ). or_none (place_of n)) (range_with_len 0 100)

pub place_read : (n : ℕ) → get_or place_bytes n 255 ≡ or_none (place_of n)
place_read n = go (ltb n 100) refl
  where
    go : (t : Bool) → ltb n 100 ≡ t → get_or place_bytes n 255 ≡ or_none (place_of n)
    go true q = get_or-map-range_with_len (λ (n : ℕ). or_none (place_of n)) 0 100 n n 255 (ltb-true n 100 q) (omega arith)
    go false q =
        let h : length place_bytes ≤ n = ltb-false n 100 q in
        rw (place_past n (ltb-false n 100 q)) (get_or-eq_default place_bytes 255 h)
