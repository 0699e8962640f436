-- Real time counted and dropped: a byte at a time, over two runs of bytes, and that the two come to the whole.
use mathlib.Core.Path.{◌≡◌, refl, ap}
use mathlib.Core.Bool.{Bool, true, false, cond}
use mathlib.Core.List.{List, [], ◌∷◌, ◌++◌}
use Prim.Native.Nat.{ℕ, suc, ◌+◌, ◌≤◌, ◌<◌}
use native.Mathlib.Omega.{arith}
use lib.ListN.{length}
use Rattle.streams.specs.Bytes.{realTime, byte_kind, is_real_time, without_real_time, real_time_in}
use Rattle.streams.proofs.Bytes.{kind_is, stays}

pub noise_none : real_time_in [] ≡ 0
unfolding real_time_in
noise_none = refl

-- Real time is counted, any other byte is not.
pub noise_more : (b : ℕ) (s : List ℕ) → 0xF7 < b → real_time_in (b ∷ s) ≡ suc (real_time_in s)
unfolding real_time_in
noise_more b s h = simp (kind_is realTime b h)

pub noise_other : (b : ℕ) (s : List ℕ) → b ≤ 0xF7 → real_time_in (b ∷ s) ≡ real_time_in s
unfolding real_time_in
noise_other b s h = simp (stays b h)

-- One byte counts at most once.
pub noise_one : (b : ℕ) → real_time_in (b ∷ []) ≤ 1
unfolding real_time_in
noise_one b = by_test (is_real_time (byte_kind b))
  where
    by_test : (t : Bool) → cond t 1 0 ≤ 1
    by_test true = omega arith
    by_test false = omega arith

pub noise_append : (u v : List ℕ) → real_time_in (u ++ v) ≡ real_time_in u + real_time_in v
unfolding real_time_in
noise_append [] v = omega arith
noise_append (b ∷ u) v = by_test (is_real_time (byte_kind b)) (noise_append u v)
  where
    by_test : (t : Bool) → real_time_in (u ++ v) ≡ real_time_in u + real_time_in v
        → cond t (suc (real_time_in (u ++ v))) (real_time_in (u ++ v)) ≡ cond t (suc (real_time_in u)) (real_time_in u) + real_time_in v
    by_test true i = omega arith
    by_test false i = i

-- What is kept and what is dropped are all the bytes.
pub kept_and_dropped : (s : List ℕ) → length s ≡ length (without_real_time s) + real_time_in s
unfolding real_time_in without_real_time
kept_and_dropped [] = refl
kept_and_dropped (b ∷ s) = by_test (is_real_time (byte_kind b)) (kept_and_dropped s)
  where
    by_test : (t : Bool) → length s ≡ length (without_real_time s) + real_time_in s
        → suc (length s) ≡ length (cond t (without_real_time s) (b ∷ without_real_time s)) + cond t (suc (real_time_in s)) (real_time_in s)
    by_test true i = omega arith
    by_test false i = omega arith

-- Bytes without real time are kept, every one; and only they are.
pub all_kept : (s : List ℕ) → real_time_in s ≡ 0 → without_real_time s ≡ s
unfolding real_time_in without_real_time
all_kept [] e = refl
all_kept (b ∷ s) e = by_test (is_real_time (byte_kind b)) e (all_kept s)
  where
    by_test : (t : Bool) → cond t (suc (real_time_in s)) (real_time_in s) ≡ 0 → (real_time_in s ≡ 0 → without_real_time s ≡ s)
        → cond t (without_real_time s) (b ∷ without_real_time s) ≡ b ∷ s
    by_test true z i = absurd (omega arith)
    by_test false z i = rw (i z)

pub none_dropped : (s : List ℕ) → without_real_time s ≡ s → real_time_in s ≡ 0
none_dropped s e = omega (arith, kept_and_dropped s, ap length e)
