-- The counts of a message's extent, a byte at a time: at an index of the bytes, as a loop has them.
-- Each law splits the bytes at the index and looks at the kind of the byte there.
use Rattle.std.proofs.Common.{◌≡◌, ◌≢◌, ℕ, zero, suc, ◌+◌, ◌<◌, ◌≤◌, Bool, true, false, not, cond, eqb, List, [], ◌∷◌, length, get_or, take, drop, refl, add-zero, add-one, arith, drop_of_length-le, drop-cons, eq-eqb, ne_eqb}
use borrow.Author.Tests.{eqb-true, eqb-false}
use Rattle.std.specs.List.{All, prefix_len}
use Rattle.std.proofs.lemmas.List.Elements.{All-head, All-tail}
use Rattle.std.proofs.lemmas.List.Sums.{prefix_len-le-length}
use Rattle.streams.specs.Bytes.{body}
use Rattle.frames.specs.declared.Ending.TheVariants.{Whole, Interrupted, Cut}
use Rattle.frames.specs.code.Extent.{ahead, start_at, ending_of}
use Rattle.frames.specs.code.Blocks.{Goes}
use Rattle.streams.proofs.Bytes.{ends_there, goes_on, body_on, body_stop}

-- The byte at an index and what follows it.
pub split : (s : List ℕ) (i : ℕ) → i < length s → drop i s ≡ get_or s i 0 ∷ drop (i + 1) s
split s i h = rw (add-one, drop-cons s i 0)

module _ (s : List ℕ) (i : ℕ) (h : i < length s) where
  -- The body goes on over a data byte and over real time, and stops before any other byte.
  pub body_goes : Goes (get_or s i 0) → body (drop i s) ≡ get_or s i 0 ∷ body (drop (i + 1) s)
  body_goes n = rw (split s i h) (body_on _ _ (goes_on _ (λ k l. n (k, l))))

  pub body_ended : 0x80 ≤ get_or s i 0 → get_or s i 0 ≤ 0xF7 → body (drop i s) ≡ []
  body_ended k l = rw (split s i h) (body_stop _ _ (ends_there _ k l))

-- Past the end nothing is left to count.
pub body_end : (s : List ℕ) (i : ℕ) → length s ≤ i → body (drop i s) ≡ []
unfolding body
body_end s i h = rw (drop_of_length-le s h)

-- The bytes before the first F0H are the front that has none, however much of it is passed over.
pub ahead_is : (s : List ℕ) → ahead s ≡ prefix_len (λ b. not (eqb b 0xF0)) s
unfolding ahead
ahead_is [] = refl
ahead_is (b ∷ s) = by_test (eqb b 0xF0) (ahead_is s)
  where
    by_test : (t : Bool) → ahead s ≡ prefix_len (λ x. not (eqb x 0xF0)) s
        → cond t 0 (suc (ahead s)) ≡ cond (not t) (1 + prefix_len (λ x. not (eqb x 0xF0)) s) 0
    by_test true e = refl
    by_test false e = omega arith

-- An F0H stands at once.
pub ahead_now : (s : List ℕ) → 0 < length s → get_or s 0 0 ≡ 0xF0 → ahead s ≡ 0
unfolding ahead
ahead_now [] h e = absurd (omega arith)
ahead_now (b ∷ s) h e = rw (eq-eqb b 0xF0 e)

-- Bytes without an F0H are passed over.
pub ahead_past : (s : List ℕ) (n : ℕ) → n ≤ length s → All (λ b. b ≢ 0xF0) (take n s) → ahead s ≡ n + ahead (drop n s)
unfolding ahead
ahead_past s zero h a = omega arith
ahead_past [] (suc n) h a = absurd (omega arith)
ahead_past (b ∷ s) (suc n) h a =
    let i = ahead_past s n (omega arith) (All-tail (λ x. x ≢ 0xF0) b (take n s) a) in
    rw (ne_eqb b 0xF0 (All-head (λ x. x ≢ 0xF0) b (take n s) a)) (omega (arith, i))

-- No more bytes stand before the first F0H than there are.
pub ahead_within : (s : List ℕ) → ahead s ≤ length s
ahead_within s = omega (arith, ahead_is s, prefix_len-le-length (λ b. not (eqb b 0xF0)) s)

-- Past the end no byte stands.
pub start_past : (s : List ℕ) (p : ℕ) → length s ≤ p → start_at s p ≡ p
unfolding start_at ahead
start_past s p h = rw (drop_of_length-le s h) (add-zero p)

-- What stands behind a body, by how its message ends.
pub behind_cut : (w : List ℕ) → ending_of w ≡ Cut → w ≡ []
behind_cut [] e = refl
behind_cut (x ∷ r) e = by_test (eqb x 0xF7) e
  where
    by_test : (t : Bool) → cond t Whole Interrupted ≡ Cut → x ∷ r ≡ []
    by_test true e = cc
    by_test false e = cc

pub behind_whole : (w : List ℕ) → ending_of w ≡ Whole → w ≡ 0xF7 ∷ drop 1 w
behind_whole [] e = cc
behind_whole (x ∷ r) e = by_test (eqb x 0xF7) refl e
  where
    by_test : (t : Bool) → eqb x 0xF7 ≡ t → cond t Whole Interrupted ≡ Whole → x ∷ r ≡ 0xF7 ∷ r
    by_test true q e = rw (eqb-true x 0xF7 q)
    by_test false q e = cc

pub behind_interrupted : (w : List ℕ) → ending_of w ≡ Interrupted → (w ≡ get_or w 0 0 ∷ drop 1 w) × (get_or w 0 0 ≢ 0xF7)
behind_interrupted [] e = cc
behind_interrupted (x ∷ r) e = by_test (eqb x 0xF7) refl e
  where
    by_test : (t : Bool) → eqb x 0xF7 ≡ t → cond t Whole Interrupted ≡ Interrupted → (x ∷ r ≡ x ∷ r) × (x ≢ 0xF7)
    by_test true q e = cc
    by_test false q e = (refl, eqb-false x 0xF7 q)
