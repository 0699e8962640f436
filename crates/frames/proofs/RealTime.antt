-- Real time among bytes, a byte at a time: at an index of the bytes, as a loop has them; and what is left without it.
use Rattle.std.proofs.Common.{◌≡◌, ℕ, suc, ◌+◌, ◌<◌, ◌≤◌, Bool, true, false, cond, ltb, List, [], ◌∷◌, length, get_or, drop, refl, add-zero, drop_of_length-le, lt_of_not-le, arith, length-drop, get_or-drop, drop-drop}
use native.Mathlib.Decide.{dec_le}
use borrow.Author.Tests.{lt-ltb, le-ltb}
use Rattle.std.specs.List.{prefix_len}
use Rattle.std.proofs.lemmas.List.Sums.{prefix_len-le-length}
use Rattle.streams.specs.Bytes.{realTime, byte_kind, is_real_time, without_real_time}
use Rattle.frames.specs.code.Extent.{real_time_ahead, past_real_time}
use Rattle.streams.proofs.Bytes.{kind_is, stays}
use Rattle.frames.proofs.Extent.{split}

module _ (s : List ℕ) (i : ℕ) (h : i < length s) where
  pub past_more : 0xF7 < get_or s i 0 → real_time_ahead (drop i s) ≡ suc (real_time_ahead (drop (i + 1) s))
  unfolding real_time_ahead
  past_more k = rw (split s i h) (simp (kind_is realTime _ k))

  pub past_found : get_or s i 0 ≤ 0xF7 → real_time_ahead (drop i s) ≡ 0
  unfolding real_time_ahead
  past_found k = rw (split s i h) (simp (stays _ k))

  -- Without real time the bytes from the index on begin behind it, or with the byte there.
  pub without_passed : 0xF7 < get_or s i 0 → without_real_time (drop i s) ≡ without_real_time (drop (i + 1) s)
  unfolding without_real_time
  without_passed k = rw (split s i h) (simp (kind_is realTime _ k))

  pub without_kept : get_or s i 0 ≤ 0xF7 → without_real_time (drop i s) ≡ get_or s i 0 ∷ without_real_time (drop (i + 1) s)
  unfolding without_real_time
  without_kept k = rw (split s i h) (simp (stays _ k))

-- The real time ahead is the front that is nothing else.
pub real_time_ahead_is : (s : List ℕ) → real_time_ahead s ≡ prefix_len (ltb 0xF7) s
unfolding real_time_ahead
real_time_ahead_is [] = refl
real_time_ahead_is (b ∷ s) = by_kind (dec_le b 0xF7) (real_time_ahead_is s)
  where
    by_kind : Dec (b ≤ 0xF7) → real_time_ahead s ≡ prefix_len (ltb 0xF7) s
        → cond (is_real_time (byte_kind b)) (suc (real_time_ahead s)) 0 ≡ cond (ltb 0xF7 b) (1 + prefix_len (ltb 0xF7) s) 0
    by_kind (yes k) i = rw (stays b k, le-ltb 0xF7 b k)
    by_kind (no k) i = rw (kind_is realTime b (lt_of_not-le k), lt-ltb 0xF7 b (lt_of_not-le k)) (omega arith)

pub real_time_ahead_within : (s : List ℕ) → real_time_ahead s ≤ length s
real_time_ahead_within s = omega (arith, real_time_ahead_is s, prefix_len-le-length (ltb 0xF7) s)

-- Past the end no byte stands.
pub past_end : (s : List ℕ) (p : ℕ) → length s ≤ p → past_real_time s p ≡ p
unfolding past_real_time real_time_ahead
past_end s p h = rw (drop_of_length-le s h) (add-zero p)

-- The first byte that is not real time is the first that is kept, and the others that are kept stand behind it.
pub record Next (s t : List ℕ) (r : ℕ) : Type 0 where
  pub within : r < length s
  pub first : t ≡ get_or s r 0 ∷ without_real_time (drop (r + 1) s)

first_kept : (t : List ℕ) → 0 < length (without_real_time t) → Next t (without_real_time t) (real_time_ahead t)
unfolding without_real_time real_time_ahead
first_kept [] h = absurd (omega arith)
first_kept (b ∷ t) h = by_test (is_real_time (byte_kind b)) h (first_kept t)
  where
    by_test : (v : Bool) → 0 < length (cond v (without_real_time t) (b ∷ without_real_time t))
        → (0 < length (without_real_time t) → Next t (without_real_time t) (real_time_ahead t))
        → Next (b ∷ t) (cond v (without_real_time t) (b ∷ without_real_time t)) (cond v (suc (real_time_ahead t)) 0)
    by_test true h i =
        let n = i h in
        let further : suc (real_time_ahead t) + 1 ≡ suc (real_time_ahead t + 1) = omega arith in
        record { within = omega (arith, n.within); first = rw further n.first }
    by_test false h i = record { within = omega arith; first = refl }

pub past_least : (s : List ℕ) (p : ℕ) → p ≤ past_real_time s p
unfolding past_real_time
past_least s p = omega arith

pub past_next : (s : List ℕ) (p : ℕ) → 0 < length (without_real_time (drop p s)) → Next s (without_real_time (drop p s)) (past_real_time s p)
unfolding past_real_time
past_next s p h =
    let t = drop p s in
    let k = real_time_ahead t in
    let n = first_kept t h in
    let further : p + (k + 1) ≡ p + k + 1 = omega arith in
    record { within = omega (arith, n.within, length-drop p s); first = rw (get_or-drop p s k 0, drop-drop (k + 1) p s, further) at n.first }
