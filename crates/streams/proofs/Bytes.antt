-- Which bytes each kind has, and what follows for the bytes that end a message.
-- Each law goes by the tests of `byte_kind` in their order.
use mathlib.Core.Path.{◌≡◌, refl, ap, ◌∙◌}
use mathlib.Core.Bool.{Bool, true, false, cond}
use mathlib.Core.List.{List, [], ◌∷◌, ◌++◌}
use mathlib.Core.Logic.{◌↔◌}
use Prim.Native.Nat.{ℕ, suc, ◌+◌, ◌≤◌, ◌<◌}
use native.Mathlib.Omega.{arith}
use lib.Dec.{eqb, ltb}
use lib.ListN.{length, take, drop}
use lib.Seq.{take-add}
use borrow.Author.Tests.{ne_eqb, lt-ltb, le-ltb, eqb-true, eqb-false, ltb-true, ltb-false}
use Rattle.streams.specs.Bytes.{ByteKind, dataByte, exclusive, endOfExclusive, otherStatus, realTime, byte_kind, ends, is_real_time, body}
use Rattle.streams.specs.promises.Kinds.{KindOf}

-- The bytes of a kind.
abbrev pub Lies : ByteKind → ℕ → Type 0
Lies dataByte b = b < 0x80
Lies exclusive b = b ≡ 0xF0
Lies endOfExclusive b = b ≡ 0xF7
Lies otherStatus b = (0x80 ≤ b) × (b ≤ 0xF7) × (b ≡ 0xF0 → ⊥) × (b ≡ 0xF7 → ⊥)
Lies realTime b = 0xF7 < b

-- A byte that lies among those of a kind is of that kind.
pub kind_is : (k : ByteKind) (b : ℕ) → Lies k b → byte_kind b ≡ k
unfolding byte_kind
kind_is dataByte b h = rw (lt-ltb b 0x80 h)
kind_is exclusive b e = rw e
kind_is endOfExclusive b e = rw e
kind_is otherStatus b h = rw (le-ltb b 0x80 h.0, ne_eqb b 0xF0 h.2, ne_eqb b 0xF7 h.3, lt-ltb b 0xF8 (omega arith))
kind_is realTime b h = rw (le-ltb b 0x80 (omega arith), ne_eqb b 0xF0 (λ e. omega arith), ne_eqb b 0xF7 (λ e. omega arith), le-ltb b 0xF8 h)

-- Each byte lies among those of its kind.
pub lies : (b : ℕ) → Lies (byte_kind b) b
unfolding byte_kind
lies b = go (ltb b 0x80) (eqb b 0xF0) (eqb b 0xF7) (ltb b 0xF8) refl refl refl refl
  where
    go : (t u v w : Bool) → ltb b 0x80 ≡ t → eqb b 0xF0 ≡ u → eqb b 0xF7 ≡ v → ltb b 0xF8 ≡ w
        → Lies (cond t dataByte (cond u exclusive (cond v endOfExclusive (cond w otherStatus realTime)))) b
    go true u v w q₁ q₂ q₃ q₄ = ltb-true b 0x80 q₁
    go false true v w q₁ q₂ q₃ q₄ = eqb-true b 0xF0 q₂
    go false false true w q₁ q₂ q₃ q₄ = eqb-true b 0xF7 q₃
    go false false false true q₁ q₂ q₃ q₄ =
        let h = ltb-true b 0xF8 q₄ in (ltb-false b 0x80 q₁, omega arith, eqb-false b 0xF0 q₂, eqb-false b 0xF7 q₃)
    go false false false false q₁ q₂ q₃ q₄ = ltb-false b 0xF8 q₄

-- A byte of a known kind lies among those of that kind.
pub lies_in : (k : ByteKind) (b : ℕ) → byte_kind b ≡ k → Lies k b
lies_in k b e = rw e at (lies b)

no : false ≡ true → ⊥
no e = let z : ◌≡◌ {A = ℕ} 0 1 = ap (λ (t : Bool). cond t 1 0) e in omega arith

-- A byte below F8H is not real time.
pub not_real_time : (y : ℕ) → y < 0xF8 → byte_kind y ≡ realTime → ⊥
not_real_time y h e = let l = lies_in realTime y e in omega arith

-- Nor is it dropped.
pub stays : (b : ℕ) → b ≤ 0xF7 → is_real_time (byte_kind b) ≡ false
stays b h = go (byte_kind b) (lies b)
  where
    go : (k : ByteKind) → Lies k b → is_real_time k ≡ false
    go dataByte l = refl
    go exclusive l = refl
    go endOfExclusive l = refl
    go otherStatus l = refl
    go realTime l = absurd (omega arith)

-- A byte in 80H..F7H ends a message.
pub ends_there : (b : ℕ) → 0x80 ≤ b → b ≤ 0xF7 → ends (byte_kind b) ≡ true
ends_there b h h' = go (byte_kind b) (lies b)
  where
    go : (k : ByteKind) → Lies k b → ends k ≡ true
    go dataByte l = absurd (omega arith)
    go exclusive l = refl
    go endOfExclusive l = refl
    go otherStatus l = refl
    go realTime l = absurd (omega arith)

-- Any other byte does not.
pub goes_on : (b : ℕ) → (0x80 ≤ b → b ≤ 0xF7 → ⊥) → ends (byte_kind b) ≡ false
goes_on b n = go (byte_kind b) (lies b)
  where
    go : (k : ByteKind) → Lies k b → ends k ≡ false
    go dataByte l = refl
    go exclusive l = absurd (n (omega arith) (omega arith))
    go endOfExclusive l = absurd (n (omega arith) (omega arith))
    go otherStatus l = absurd (n (omega arith) (omega arith))
    go realTime l = refl

-- Both the other way round too.
pub kind_found : (b : ℕ) → KindOf b
kind_found b = record { real_time = real (byte_kind b) (lies b); ending = last (byte_kind b) (lies b) }
  where
    real : (k : ByteKind) → Lies k b → (is_real_time k ≡ true) ↔ (0xF8 ≤ b)
    real dataByte l = ((λ e. absurd (no e)), λ h. absurd (omega arith))
    real exclusive l = ((λ e. absurd (no e)), λ h. absurd (omega arith))
    real endOfExclusive l = ((λ e. absurd (no e)), λ h. absurd (omega arith))
    real otherStatus l = ((λ e. absurd (no e)), λ h. absurd (omega arith))
    real realTime l = ((λ e. l), λ h. refl)

    last : (k : ByteKind) → Lies k b → (ends k ≡ true) ↔ ((0x80 ≤ b) × (b < 0xF8))
    last dataByte l = ((λ e. absurd (no e)), λ h. absurd (omega arith))
    last exclusive l = ((λ e. (omega arith, omega arith)), λ h. refl)
    last endOfExclusive l = ((λ e. (omega arith, omega arith)), λ h. refl)
    last otherStatus l = ((λ e. (omega arith, omega arith)), λ h. refl)
    last realTime l = ((λ e. absurd (no e)), λ h. absurd (omega arith))

-- What a byte that ends a message can be.
pub data Ending (x : ℕ) : Type 0 where
  closing : x ≡ 0xF7 → Ending x
  starting : x ≡ 0xF0 → Ending x
  breaking : byte_kind x ≡ otherStatus → Ending x

-- A byte that ends a message is F7H, F0H or another status byte.
pub ending : (x : ℕ) → ends (byte_kind x) ≡ true → Ending x
ending x e = go (byte_kind x) refl e
  where
    go : (k : ByteKind) → byte_kind x ≡ k → ends k ≡ true → Ending x
    go dataByte q e = let z : ◌≡◌ {A = ℕ} 0 1 = cc in absurd (omega arith)
    go exclusive q e = starting (lies_in exclusive x q)
    go endOfExclusive q e = closing (lies_in endOfExclusive x q)
    go otherStatus q e = breaking q
    go realTime q e = let z : ◌≡◌ {A = ℕ} 0 1 = cc in absurd (omega arith)

-- The body goes on over a byte that does not end the message.
pub body_on : (b : ℕ) (s : List ℕ) → ends (byte_kind b) ≡ false → body (b ∷ s) ≡ b ∷ body s
unfolding body
body_on b s e = rw e

-- The body stops before a byte that ends the message.
pub body_stop : (b : ℕ) (s : List ℕ) → ends (byte_kind b) ≡ true → body (b ∷ s) ≡ []
unfolding body
body_stop b s e = rw e

-- The byte behind a body ends the message.
pub behind_body : (t : List ℕ) (x : ℕ) (r : List ℕ) → drop (length (body t)) t ≡ x ∷ r → ends (byte_kind x) ≡ true
unfolding body
behind_body [] x r e = cc
behind_body (b ∷ t) x r e = go (ends (byte_kind b)) refl e (behind_body t x r)
  where
    go : (v : Bool) → ends (byte_kind b) ≡ v → drop (length (cond v [] (b ∷ body t))) (b ∷ t) ≡ x ∷ r
        → (drop (length (body t)) t ≡ x ∷ r → ends (byte_kind x) ≡ true) → ends (byte_kind x) ≡ true
    go true q e i = cc
    go false q e i = i e

-- The body is no longer than the bytes.
pub body_within : (t : List ℕ) → length (body t) ≤ length t
unfolding body
body_within [] = omega arith
body_within (b ∷ t) = go (ends (byte_kind b)) (body_within t)
  where
    go : (v : Bool) → length (body t) ≤ length t → length (cond v [] (b ∷ body t)) ≤ suc (length t)
    go true i = omega arith
    go false i = omega arith

-- The body is the bytes before the one that ends it.
pub body_take : (t : List ℕ) → take (length (body t)) t ≡ body t
unfolding body
body_take [] = refl
body_take (b ∷ t) = go (ends (byte_kind b)) (body_take t)
  where
    go : (v : Bool) → take (length (body t)) t ≡ body t → take (length (cond v [] (b ∷ body t))) (b ∷ t) ≡ cond v [] (b ∷ body t)
    go true i = refl
    go false i = ap (λ (l : List ℕ). b ∷ l) i

-- With the F7H that closes it, one more.
pub body_closed : (t r : List ℕ) → drop (length (body t)) t ≡ 0xF7 ∷ r → take (length (body t) + 1) t ≡ body t ++ (0xF7 ∷ [])
body_closed t r e = take-add (length (body t)) 1 t ∙ rw (body_take t, e)
