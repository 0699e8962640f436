-- A test that is computed at every number below a bound, and what it says at each.
use Rattle.std.proofs.Common.{◌≡◌, ℕ, zero, suc, ◌<◌, Bool, true, false, ◌&&◌, T, sym, refl, subst, ⊎_elim, le_of_suc-le-suc, not-suc-le-zero, eq-or-lt_of_le}

-- A test of two parts, as both.
pub parts : (a b : Bool) → T (a && b) → T a × T b
parts true b t = (tt, t)
parts false b t = absurd t

-- A test that passes is true.
pub holds : (t : Bool) → T t → t ≡ true
holds true h = refl
holds false h = absurd h

-- The test f passes at every number below n.
abbrev pub each : (ℕ → Bool) → ℕ → Bool
each f zero = true
each f (suc n) = f n && each f n

-- So it passes at each.
pub at : (f : ℕ → Bool) (n : ℕ) → T (each f n) → (k : ℕ) → k < n → T (f k)
at f zero t k h = absurd (not-suc-le-zero h)
at f (suc n) t k h =
    let both = parts (f n) (each f n) t in
    ⊎_elim (λ e. subst (λ (m : ℕ). T (f m)) (sym e) both.0) (λ l. at f n both.1 k l) (eq-or-lt_of_le (le_of_suc-le-suc h))
