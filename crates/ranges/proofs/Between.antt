-- What `between` says in numbers. Where a range spans fewer than 129 bytes it never has a byte and the one 128 higher.
use Rattle.std.proofs.Common.{◌≡◌, ℕ, ◌+◌, ◌-◌, ◌%◌, ◌<◌, ◌≤◌, Bool, true, false, cond, ◌&&◌, ◌||◌, T, ltb, leb, ◌⊎◌, refl, arith, ltb→lt, ltb-true, lt-ltb, leb-false, leb-true}
use Rattle.ranges.specs.Ranges.{between}
use Rattle.ranges.proofs.Below.{parts}

not_true : {A : Type 0} → false ≡ true → A
not_true e = let z : ◌≡◌ {A = ℕ} 0 1 = cc in absurd (omega arith)

-- A byte that lies between two bounds, as one of three ranges.
pub data Lies (least greatest b : ℕ) : Type 0 where
  plain : least ≤ greatest → least ≤ b → b ≤ greatest → b < 256 → Lies least greatest b
  negative : greatest < least → least ≤ b → b < 256 → Lies least greatest b
  positive : greatest < least → b ≤ greatest → b < 256 → Lies least greatest b

-- Where `between` is true, the byte lies in one of them.
pub lies : (least greatest b : ℕ) → between least greatest b ≡ true → Lies least greatest b
unfolding between
lies least greatest b e = go (ltb b 256) (leb least greatest) (leb least b) (leb b greatest) refl refl refl refl e
  where
    go : (s t u v : Bool) → ltb b 256 ≡ s → leb least greatest ≡ t → leb least b ≡ u → leb b greatest ≡ v
        → s && cond t (u && v) (u || v) ≡ true → Lies least greatest b
    go false t u v q₀ q₁ q₂ q₃ e = not_true e
    go true true true true q₀ q₁ q₂ q₃ e = plain (leb-true least greatest q₁) (leb-true least b q₂) (leb-true b greatest q₃) (ltb-true b 256 q₀)
    go true true true false q₀ q₁ q₂ q₃ e = not_true e
    go true true false v q₀ q₁ q₂ q₃ e = not_true e
    go true false true v q₀ q₁ q₂ q₃ e = negative (leb-false least greatest q₁) (leb-true least b q₂) (ltb-true b 256 q₀)
    go true false false true q₀ q₁ q₂ q₃ e = positive (leb-false least greatest q₁) (leb-true b greatest q₃) (ltb-true b 256 q₀)
    go true false false false q₀ q₁ q₂ q₃ e = not_true e

-- Such a byte is a byte.
pub is_byte : (least greatest b : ℕ) → between least greatest b ≡ true → b < 256
is_byte least greatest b e = go (lies least greatest b e)
  where
    go : Lies least greatest b → b < 256
    go (plain s₁ s₂ s₃ s₄) = s₄
    go (negative s₁ s₂ s₃) = s₃
    go (positive s₁ s₂ s₃) = s₃

-- A byte lies between two bounds exactly when what is left of it above the least, modulo 256, is at most what is left of the greatest.
pub between_width : (l g b r w : ℕ) → l < 256 → g < 256 → b < 256 → r < 256 → (r + l) % 256 ≡ b → w ≡ (g + (256 - l)) % 256 → between l g b ≡ leb r w
unfolding between
between_width l g b r w hl hg hb hr er ew = rw (lt-ltb b 256 hb) (go (leb l g) (leb l b) (leb b g) (leb r w) refl refl refl refl)
  where
    go : (t u v x : Bool) → leb l g ≡ t → leb l b ≡ u → leb b g ≡ v → leb r w ≡ x → cond t (u && v) (u || v) ≡ x
    go true true true true q₁ q₂ q₃ q₄ = refl
    go true true true false q₁ q₂ q₃ q₄ =
        let a = leb-true l g q₁ in let c = leb-true l b q₂ in let e = leb-true b g q₃ in let d = leb-false r w q₄ in absurd (omega arith)
    go true true false true q₁ q₂ q₃ q₄ =
        let a = leb-true l g q₁ in let c = leb-true l b q₂ in let e = leb-false b g q₃ in let d = leb-true r w q₄ in absurd (omega arith)
    go true true false false q₁ q₂ q₃ q₄ = refl
    go true false v true q₁ q₂ q₃ q₄ = let a = leb-true l g q₁ in let c = leb-false l b q₂ in let d = leb-true r w q₄ in absurd (omega arith)
    go true false v false q₁ q₂ q₃ q₄ = refl
    go false true v true q₁ q₂ q₃ q₄ = refl
    go false true v false q₁ q₂ q₃ q₄ =
        let a = leb-false l g q₁ in let c = leb-true l b q₂ in let d = leb-false r w q₄ in absurd (omega arith)
    go false false true true q₁ q₂ q₃ q₄ = refl
    go false false true false q₁ q₂ q₃ q₄ =
        let a = leb-false l g q₁ in let c = leb-false l b q₂ in let e = leb-true b g q₃ in let d = leb-false r w q₄ in absurd (omega arith)
    go false false false true q₁ q₂ q₃ q₄ =
        let a = leb-false l g q₁ in let c = leb-false l b q₂ in let e = leb-false b g q₃ in let d = leb-true r w q₄ in absurd (omega arith)
    go false false false false q₁ q₂ q₃ q₄ = refl

-- A range from the least up, or through 255 to 0, spans at most 128 bytes.
abbrev pub narrow : ℕ → ℕ → Bool
narrow least greatest = cond (leb least greatest) (ltb greatest (least + 128)) (ltb (greatest + 128) least && ltb least 256)

data Narrow (least greatest : ℕ) : Type 0 where
  up : least ≤ greatest → greatest < least + 128 → Narrow least greatest
  through : greatest + 128 < least → least < 256 → Narrow least greatest

narrows : (least greatest : ℕ) → T (narrow least greatest) → Narrow least greatest
narrows least greatest e = go (leb least greatest) refl e
  where
    go : (t : Bool) → leb least greatest ≡ t → T (cond t (ltb greatest (least + 128)) (ltb (greatest + 128) least && ltb least 256)) → Narrow least greatest
    go true q e = up (leb-true least greatest q) (ltb→lt greatest (least + 128) e)
    go false q e =
        let k = parts (ltb (greatest + 128) least) (ltb least 256) e in
        through (ltb→lt (greatest + 128) least k.0) (ltb→lt least 256 k.1)

far : (least greatest b : ℕ) → Narrow least greatest → Lies least greatest b → Lies least greatest (b + 128) → ⊥
far least greatest b (up n₁ n₂) (plain s₁ s₂ s₃ s₄) (plain r₁ r₂ r₃ r₄) = omega arith
far least greatest b (up n₁ n₂) (plain s₁ s₂ s₃ s₄) (negative r₁ r₂ r₃) = omega arith
far least greatest b (up n₁ n₂) (plain s₁ s₂ s₃ s₄) (positive r₁ r₂ r₃) = omega arith
far least greatest b (up n₁ n₂) (negative s₁ s₂ s₃) r = omega arith
far least greatest b (up n₁ n₂) (positive s₁ s₂ s₃) r = omega arith
far least greatest b (through n₁ n₂) (plain s₁ s₂ s₃ s₄) r = omega arith
far least greatest b (through n₁ n₂) (negative s₁ s₂ s₃) (plain r₁ r₂ r₃ r₄) = omega arith
far least greatest b (through n₁ n₂) (negative s₁ s₂ s₃) (negative r₁ r₂ r₃) = omega arith
far least greatest b (through n₁ n₂) (negative s₁ s₂ s₃) (positive r₁ r₂ r₃) = omega arith
far least greatest b (through n₁ n₂) (positive s₁ s₂ s₃) (plain r₁ r₂ r₃ r₄) = omega arith
far least greatest b (through n₁ n₂) (positive s₁ s₂ s₃) (negative r₁ r₂ r₃) = omega arith
far least greatest b (through n₁ n₂) (positive s₁ s₂ s₃) (positive r₁ r₂ r₃) = omega arith

-- A narrow range never has both a byte and the one 128 higher.
pub narrow_apart : (least greatest b : ℕ) → T (narrow least greatest) → between least greatest b ≡ true → between least greatest (b + 128) ≡ true → ⊥
narrow_apart least greatest b n e f =
    far least greatest b (narrows least greatest n) (lies least greatest b e) (lies least greatest (b + 128) f)

-- By n, up or down.
abbrev pub MovedBy : ℕ → ℕ → ℕ → Type 0
MovedBy n b c = (c ≡ b + n) ⊎ (b ≡ c + n)
