-- Runs of bytes from a place on, none of them out of range: byte by byte, joined and split, one byte stored.
use Rattle.std.proofs.Common.{◌≡◌, ℕ, zero, suc, ◌+◌, ◌-◌, ◌<◌, ◌≤◌, Bool, true, false, cond, T, eqb, List, [], ◌∷◌, ◌++◌, length, get_or, set, ℤ, sym, refl, ap, ⊎_elim, add-zero, arith, eqb-true}
use mathlib.Core.Option.{Option, none, some}
use borrow.Author.Tests.{eqb-false}
use Rattle.answers.specs.Lists.{All}
use Rattle.answers.specs.Table.{Found, found}
use Rattle.ranges.specs.Ranges.{Table, least_in, greatest_in, in_row, value_in, out_from}
use Rattle.ranges.specs.promises.Tables.{Apart, Lowest, LowestOut}
use Rattle.ranges.proofs.Below.{each, at}
use Rattle.ranges.proofs.Between.{is_byte, narrow, narrow_apart, MovedBy}

module _ (t : Table) where
  -- Bytes from place k on, none out of range: the first is accepted, and none of the rest is out of range.
  pub one_in : (k b : ℕ) (p : List ℕ) → out_from t k (b ∷ p) ≡ none → (in_row t k b ≡ true) × (out_from t (suc k) p ≡ none)
  unfolding out_from
  one_in k b p e = go (in_row t k b) refl e
    where
      go : (u : Bool) → in_row t k b ≡ u → cond u (out_from t (suc k) p) (some (found k (value_in t k b))) ≡ none
          → (in_row t k b ≡ true) × (out_from t (suc k) p ≡ none)
      go true q e = (q, e)
      go false q e = let z : ◌≡◌ {A = ℕ} 0 1 = cc in absurd (omega arith)

  -- A byte that is accepted before bytes none of which is out of range.
  pub one_more_in : (k b : ℕ) (p : List ℕ) → in_row t k b ≡ true → out_from t (suc k) p ≡ none → out_from t k (b ∷ p) ≡ none
  unfolding out_from
  one_more_in k b p e f = simp (e, f)

  -- No bytes, none out of range.
  pub none_out : (k : ℕ) → out_from t k [] ≡ none
  unfolding out_from
  none_out k = refl

  -- Bytes none of which is out of range are bytes.
  pub run_bytes : (k : ℕ) (p : List ℕ) → out_from t k p ≡ none → All (λ b. b < 256) p
  unfolding in_row
  run_bytes k [] e = tt
  run_bytes k (b ∷ p) e = let c = one_in k b p e in (is_byte (least_in t k) (greatest_in t k) b c.0, run_bytes (suc k) p c.1)

  -- A byte that is accepted at its place is stored: still no place is out of range.
  pub out_set : (j k b : ℕ) (p : List ℕ) → out_from t j p ≡ none → in_row t (j + k) b ≡ true → out_from t j (set p k b) ≡ none
  out_set j k b [] e h = e
  out_set j zero b (x ∷ p) e h = let same : j + 0 ≡ j = omega arith in one_more_in j b p (rw same at h) (one_in j x p e).1
  out_set j (suc k) b (x ∷ p) e h =
      let c = one_in j x p e in
      let same : j + suc k ≡ suc j + k = omega arith in
      one_more_in j x (set p k b) c.0 (out_set (suc j) k b p c.1 (rw same at h))

  -- Two runs of bytes, the second from place m on, with none out of range: nor has their join one.
  pub out_join : (k m : ℕ) (a r : List ℕ) → k + length a ≡ m → out_from t k a ≡ none → out_from t m r ≡ none → out_from t k (a ++ r) ≡ none
  out_join k m [] r h e f = let same : m ≡ k = omega arith in rw same at f
  out_join k m (x ∷ a) r h e f =
      let c = one_in k x a e in
      one_more_in k x (a ++ r) c.0 (out_join (suc k) m a r (omega arith) c.1 f)

  -- A join without one out of range: nor has either run one.
  pub out_split : (k m : ℕ) (a r : List ℕ) → k + length a ≡ m → out_from t k (a ++ r) ≡ none → (out_from t k a ≡ none) × (out_from t m r ≡ none)
  out_split k m [] r h e = let same : k ≡ m = omega arith in (none_out k, rw same at e)
  out_split k m (x ∷ a) r h e =
      let c = one_in k x (a ++ r) e in
      let d = out_split (suc k) m a r (omega arith) c.1 in
      (one_more_in k x a c.0 d.0, d.1)

  -- The search finds the lowest place out of range: the first byte's, or it goes on behind an accepted one.
  pub lowest_out : (k : ℕ) (p : List ℕ) → LowestOut t k p
  unfolding out_from
  lowest_out k [] = record { some_out = λ j v e. let z : ◌≡◌ {A = ℕ} 0 1 = cc in absurd (omega arith); none_out = λ e i l h. absurd (omega arith) }
  lowest_out k (b ∷ p) = go (in_row t k b) refl (lowest_out (suc k) p)
    where
      next : (i : ℕ) → suc k ≤ i → i - k ≡ suc (i - suc k)
      next i l = omega arith

      -- A byte accepted at the first place, and what holds at those behind it.
      from_here : in_row t k b ≡ true → (i : ℕ) → k ≤ i → (suc k ≤ i → in_row t i (get_or p (i - suc k) 0) ≡ true) → in_row t i (get_or (b ∷ p) (i - k) 0) ≡ true
      from_here q i l later = by_place (eqb i k) refl
        where
          by_place : (u : Bool) → eqb i k ≡ u → in_row t i (get_or (b ∷ p) (i - k) 0) ≡ true
          by_place true r = let same = eqb-true i k r in let z : i - k ≡ 0 = omega arith in rw (z, same) q
          by_place false r = let other = eqb-false i k r in let past : suc k ≤ i = omega arith in rw (next i past) (later past)

      go : (u : Bool) → in_row t k b ≡ u → LowestOut t (suc k) p → LowestOut t k (b ∷ p)
      go true q rest = record {
        some_out = λ j v e.
            let l = rest.some_out j v (rw q at e) in
            record {
              from = omega (arith, l.from);
              below = omega (arith, l.below);
              out = rw (next j l.from) l.out;
              before = λ i f h. from_here q i f (λ past. l.before i past h);
              value = rw (next j l.from) l.value;
            };
        none_out = λ e i f h. from_here q i f (λ past. rest.none_out (rw q at e) i past (omega arith));
      }
      go false q rest = record {
        some_out = λ j v e.
            let here : some (found k (value_in t k b)) ≡ some (found j v) = rw q at e in
            let same : k ≡ j = cc in
            let told : value_in t k b ≡ v = cc in
            let z : j - k ≡ 0 = omega arith in
            record {
              from = omega arith;
              below = omega arith;
              out = rw (z, ← same) q;
              before = λ i f h. absurd (omega arith);
              value = rw (z, ← same) (sym told);
            };
        none_out = λ e. let here : some (found k (value_in t k b)) ≡ none = rw q at e in let z : ◌≡◌ {A = ℕ} 0 1 = cc in absurd (omega arith);
      }

  -- The lowest place out of range is the one that the search finds.
  pub lowest_only : (k : ℕ) (p : List ℕ) (j : ℕ) (v : ℤ) → Lowest t k p j v → out_from t k p ≡ some (found j v)
  unfolding out_from
  lowest_only k [] j v l = absurd (omega (arith, l.from, l.below))
  lowest_only k (b ∷ p) j v l = go (eqb j k) refl (lowest_only (suc k) p j v)
    where
      go : (u : Bool) → eqb j k ≡ u → (Lowest t (suc k) p j v → out_from t (suc k) p ≡ some (found j v)) → out_from t k (b ∷ p) ≡ some (found j v)
      go true q later =
          let same = eqb-true j k q in
          let first : j - k ≡ 0 = omega arith in
          let out = rw (first, same) at l.out in
          rw (out, same) (ap (λ (w : ℤ). some (found k w)) (sym (rw (first, same) at l.value)))
      go false q later =
          let other = eqb-false j k q in
          let past : suc k ≤ j = omega (arith, l.from) in
          let next : (i : ℕ) → suc k ≤ i → i - k ≡ suc (i - suc k) = λ i h. omega arith in
          let zero_here : k - k ≡ 0 = omega arith in
          let here = rw zero_here at (l.before k (omega arith) (omega arith)) in
          rw here (later (record {
            from = past;
            below = omega (arith, l.below);
            out = rw (next j past) at l.out;
            before = λ i a h. rw (next i a) at (l.before i (omega arith) h);
            value = rw (next j past) at l.value;
          }))

  -- Every row spans at most 128 bytes.
  abbrev pub narrow_row : ℕ → Bool
  narrow_row k = narrow (least_in t k) (greatest_in t k)

  pub rows_apart : T (each narrow_row (length t)) → Apart t
  unfolding in_row
  rows_apart n k b h e f = narrow_apart (least_in t k) (greatest_in t k) b (at narrow_row (length t) n k h) e f

  -- Where no range has both a byte and the one 128 higher, a byte that moved by 128 is out of its range.
  moved_out : Apart t → (k b c : ℕ) → k < length t → in_row t k b ≡ true → MovedBy 128 b c → in_row t k c ≡ false
  moved_out apart k b c h e m = go (in_row t k c) refl
    where
      go : (u : Bool) → in_row t k c ≡ u → u ≡ false
      go true f =
          let up : c ≡ b + 128 → ⊥ = λ q. apart k b h e (rw q at f) in
          let down : b ≡ c + 128 → ⊥ = λ q. apart k c h f (rw q at e) in
          absurd (⊎_elim up down m)
      go false f = refl

  -- So it is the one byte out of range of a run that had none.
  pub runs_moved : Apart t → (k : ℕ) (p₁ : List ℕ) (b c : ℕ) (p₂ : List ℕ) → k + length (p₁ ++ b ∷ p₂) ≤ length t
      → out_from t k (p₁ ++ b ∷ p₂) ≡ none → MovedBy 128 b c
      → out_from t k (p₁ ++ c ∷ p₂) ≡ some (found (k + length p₁) (value_in t (k + length p₁) c))
  unfolding out_from
  runs_moved apart k [] b c p₂ h e m = rw (moved_out apart k b c (omega arith) (one_in k b p₂ e).0 m, add-zero k)
  runs_moved apart k (x ∷ p₁) b c p₂ h e m =
      let first = one_in k x (p₁ ++ b ∷ p₂) e in
      let next : k + suc (length p₁) ≡ suc k + length p₁ = omega arith in
      rw (first.0, next) (runs_moved apart (suc k) p₁ b c p₂ (omega arith) first.1 m)

-- A place, m further on.
abbrev pub further : ℕ → Option Found → Option Found
further m none = none
further m (some (found k v)) = some (found (m + k) v)

-- Bytes by the rows of a table from place m on, as by a table u of those rows alone.
pub out_further : (t u : Table) (m j : ℕ) (p : List ℕ)
    → ((i : ℕ) → i < j + length p → (least_in u i ≡ least_in t (m + i)) × (greatest_in u i ≡ greatest_in t (m + i)))
    → out_from t (m + j) p ≡ further m (out_from u j p)
unfolding out_from in_row
out_further t u m j [] same = refl
out_further t u m j (b ∷ p) same =
    let rest = out_further t u m (suc j) p (λ i h. same i (omega arith)) in
    let next : suc (m + j) ≡ m + suc j = omega arith in
    let here = same j (omega arith) in
    rw (← here.0, ← here.1, next, rest) (go (in_row u j b))
  where
    go : (v : Bool) → cond v (further m (out_from u (suc j) p)) (some (found (m + j) (value_in u j b)))
        ≡ further m (cond v (out_from u (suc j) p) (some (found j (value_in u j b))))
    go true = refl
    go false = refl
