-- The content of a message among its real time: what its count tells, and where its bytes stand, one after the other.
use mathlib.Core.Path.{◌≡◌, refl, sym, ap, ◌∙◌}
use mathlib.Core.Bool.{Bool, true, false, cond}
use mathlib.Core.List.{List, [], ◌∷◌, ◌++◌, append-nil}
use Prim.Native.Nat.{ℕ, zero, suc, ◌+◌, ◌*◌, ◌-◌, ◌<◌, ◌≤◌}
use native.Mathlib.Nat.{add-zero}
use native.Mathlib.Omega.{arith}
use lib.Dec.{eqb}
use lib.ListN.{length, take, drop, get_or, length-append, length-take, length-drop}
use lib.Seq.{drop-drop, get_or-append_seam, get_or-drop, get_or-take, length-take-le, take_all, take-suc}
use borrow.Author.Tests.{eq-eqb, ne_eqb, eqb-true}
use Rattle.streams.specs.Bytes.{realTime, without_real_time, real_time_in}
use Rattle.streams.proofs.Bytes.{kind_is, stays}
use Rattle.streams.proofs.Complete.{without_append}
use Rattle.streams.proofs.Noise.{kept_and_dropped, all_kept}
use Rattle.frames.specs.code.Extent.{past_real_time}
use Rattle.frames.proofs.RealTime.{without_passed, without_kept, past_next}
use Rattle.judging.specs.code.Content.{content_by, FrontQuiet, StandsAt, LastAt, sent_in}

without_within : (b : List ℕ) → length (without_real_time b) ≤ length b
without_within b = omega (arith, kept_and_dropped b)

-- What the count tells: the whole, or what is left.
pub content_whole : (count : ℕ) (b : List ℕ) → count ≡ length b → content_by count b ≡ b
content_whole count b e = rw (eq-eqb count (length b) e)

pub content_left : (count : ℕ) (b : List ℕ) → (count ≡ length b → ⊥) → content_by count b ≡ without_real_time b
content_left count b n = rw (ne_eqb count (length b) n)

-- The bytes less the real time among them: all of them are left where there is none.
module _ (noise : ℕ) (b : List ℕ) (e : noise ≡ real_time_in b) where
  size : length b - noise ≡ length (without_real_time b)
  size = omega (arith, kept_and_dropped b, e)

  pub counted_left : content_by (length b - noise) b ≡ without_real_time b
  counted_left = by_test (eqb (length b - noise) (length b)) refl
    where
      by_test : (t : Bool) → eqb (length b - noise) (length b) ≡ t → cond t b (without_real_time b) ≡ without_real_time b
      by_test true q = sym (all_kept b (omega (arith, kept_and_dropped b, size, eqb-true (length b - noise) (length b) q)))
      by_test false q = refl

  pub counted_size : length b - noise ≡ length (content_by (length b - noise) b)
  counted_size = size ∙ sym (ap length counted_left)

pub content_within : (count : ℕ) (b : List ℕ) → length (content_by count b) ≤ length b
content_within count b = by_test (eqb count (length b))
  where
    by_test : (t : Bool) → length (cond t b (without_real_time b)) ≤ length b
    by_test true = omega arith
    by_test false = without_within b

module _ (b : List ℕ) where
  -- The first byte, and the one behind another.
  pub stands_first : 0 < length (without_real_time b) → StandsAt b 0 (past_real_time b 0)
  stands_first h = let n = past_next b 0 h in record { within = n.within; onward = n.first }

  pub stands_next : (i r : ℕ) → StandsAt b i r → i + 1 < length (without_real_time b) → StandsAt b (i + 1) (past_real_time b (r + 1))
  stands_next i r s h =
      let left : drop (i + 1) (without_real_time b) ≡ without_real_time (drop (r + 1) b) = sym (drop-drop 1 i (without_real_time b)) ∙ ap (drop 1) s.onward in
      let n = past_next b (r + 1) (omega (arith, ap length left, length-drop (i + 1) (without_real_time b))) in
      record { within = n.within; onward = left ∙ n.first }

  -- The byte that stands there.
  pub stands_byte : (i r : ℕ) → StandsAt b i r → get_or (without_real_time b) i 0 ≡ get_or b r 0
  stands_byte i r s =
      let none : i + 0 ≡ i = add-zero i in
      (rw none at (sym (get_or-drop i (without_real_time b) 0 0))) ∙ ap (λ (l : List ℕ). get_or l 0 0) s.onward

-- Without its real time a body is what is left of it up to place r: only real time stands behind.
pub record UpTo (b : List ℕ) (r : ℕ) : Type 0 where
  pub within : r < length b
  pub whole : without_real_time b ≡ without_real_time (take (suc r) b)

module _ (b : List ℕ) (some_left : 0 < length (without_real_time b)) where
  pub up_to_all : UpTo b (length b - 1)
  up_to_all =
      let some = without_within b in
      let last : suc (length b - 1) ≡ length b = omega arith in
      record { within = omega arith; whole = rw (last, take_all (length b) b (omega arith)) }

  module _ (r : ℕ) (u : UpTo b r) where
    before_last : without_real_time b ≡ without_real_time (take r b) ++ without_real_time (get_or b r 0 ∷ [])
    before_last = u.whole ∙ (ap without_real_time (take-suc b r 0 u.within) ∙ without_append (take r b) (get_or b r 0 ∷ []))

    -- Real time there: the last byte stands further to the front.
    pub up_to_less : 0xF7 < get_or b r 0 → (0 < r) × UpTo b (r - 1)
    unfolding without_real_time
    up_to_less h =
        let none : without_real_time (get_or b r 0 ∷ []) ≡ [] = simp (kind_is realTime (get_or b r 0) h) in
        let less : without_real_time b ≡ without_real_time (take r b) = before_last ∙ rw none (append-nil (without_real_time (take r b))) in
        let short : length (take r b) ≤ r = simp length-take (omega arith) in
        let further : 0 < r = omega (arith, ap length less, without_within (take r b)) in
        let place : suc (r - 1) ≡ r = omega arith in
        (further, record { within = omega (arith, u.within); whole = rw place less })

    -- Any other byte is the last.
    pub up_to_last : get_or b r 0 ≤ 0xF7 → LastAt b r
    unfolding without_real_time
    up_to_last h =
        let x = get_or b r 0 in
        let front = without_real_time (take r b) in
        let one : without_real_time (x ∷ []) ≡ x ∷ [] = simp (stays x h) in
        let all : without_real_time b ≡ front ++ (x ∷ []) = before_last ∙ rw one in
        let place : length (without_real_time b) - 1 ≡ length front = omega (arith, ap length all, length-append front (x ∷ [])) in
        record { within = u.within; last = rw (place, all) (get_or-append_seam front x [] 0) }

-- From byte i on, what is left of a body without its real time is what is left of it from place r on.
pub record LeftAt (b : List ℕ) (i r : ℕ) : Type 0 where
  pub within : r ≤ length b
  pub onward : drop i (without_real_time b) ≡ without_real_time (drop r b)

module _ (b : List ℕ) where
  -- Behind a byte of it.
  pub left_behind : (i r : ℕ) → StandsAt b i r → LeftAt b (i + 1) (r + 1)
  left_behind i r s =
      record { within = omega (arith, s.within); onward = sym (drop-drop 1 i (without_real_time b)) ∙ ap (drop 1) s.onward }

  module _ (i r : ℕ) (l : LeftAt b i r) where
    -- As many places are left as bytes of it at least.
    pub left_more : (n : ℕ) → i + n < length (without_real_time b) → r + n < length b
    left_more n h =
        omega (arith, ap length l.onward, length-drop i (without_real_time b), without_within (drop r b), length-drop r b, l.within)

    -- The byte there is real time, or the next one of it.
    pub left_passed : r < length b → 0xF7 < get_or b r 0 → LeftAt b i (r + 1)
    left_passed h k = record { within = omega arith; onward = l.onward ∙ without_passed b r h k }

    pub left_stands : r < length b → get_or b r 0 ≤ 0xF7 → StandsAt b i r
    left_stands h k = record { within = h; onward = l.onward ∙ without_kept b r h k }

-- Where no real time stands before, each byte stands at its own index.
module _ (b : List ℕ) (q : FrontQuiet b) where
  left_front : (i : ℕ) → i ≤ 3 → LeftAt b i i
  left_front zero h = record { within = omega arith; onward = refl }
  left_front (suc i) h =
      let one : i + 1 ≡ suc i = omega arith in
      rw one at (left_behind b i i (left_stands b i i (left_front i (omega arith)) (omega (arith, q.four)) (q.quiet i (omega arith))))

  pub stands_front : (i : ℕ) → i < 4 → StandsAt b i i
  stands_front i h = left_stands b i i (left_front i (omega arith)) (omega (arith, q.four)) (q.quiet i h)

-- A dump's data bytes by the content's.
module _ (size : ℕ) (c : List ℕ) (h : 4 + 2 * size ≤ length c) where
  pub sent_length : length (sent_in size c) ≡ 2 * size
  sent_length = length-take-le (2 * size) (drop 4 c) (omega (arith, length-drop 4 c))

  pub sent_byte : (j : ℕ) → j < 2 * size → get_or (sent_in size c) j 0 ≡ get_or c (4 + j) 0
  sent_byte j k = get_or-take (2 * size) (drop 4 c) j 0 k ∙ get_or-drop 4 c j 0
