-- Bytes kept at the start of lent room, as many as fit: one more where there is room, none where it is full, and behind the first of it.
use mathlib.Core.Path.{◌≡◌, refl, sym, ap, ◌∙◌}
use mathlib.Core.Bool.{Bool, true, false}
use mathlib.Core.List.{List, [], ◌∷◌, ◌++◌, append_assoc, append-nil}
use Prim.Native.Nat.{ℕ, min, ◌+◌, ◌-◌, ◌≤◌, ◌<◌}
use native.Mathlib.Nat.{min-le_right}
use native.Mathlib.Omega.{arith}
use lib.Dec.{leb}
use lib.ListN.{length, take, drop, set, length-append, length-drop, drop_of_length-le}
use lib.Seq.{take_all, take-append-le, take-append-add, length-take-le, drop-drop}
use borrow.Author.Tests.{leb-true, leb-false}
use borrow.Rule.Slice.PartMut.{put_mid, mid_of, post_of}
use Rattle.std.proofs.lemmas.List.{take_min}
use Rattle.answers.proofs.Lists.{put_next}
use Rattle.cable.specs.code.Steps.{Kept}

-- All of w fits, or as much of it as there is room for.
data Fits (w o : List ℕ) : Type 0 where
  all_of : length w ≤ length o → take (length o) w ≡ w → Fits w o
  some_of : length o ≤ length w → length (take (length o) w) ≡ length o → Fits w o

fits : (w o : List ℕ) → Fits w o
fits w o = by_test (leb (length w) (length o)) refl
  where
    by_test : (v : Bool) → leb (length w) (length o) ≡ v → Fits w o
    by_test true q = let h = leb-true (length w) (length o) q in all_of h (take_all (length o) w h)
    by_test false q = let h = leb-false (length w) (length o) q in some_of (omega arith) (length-take-le (length o) w (omega arith))

module _ (w o₀ o : List ℕ) (n : ℕ) (k : Kept w o₀ o n) where
  -- One byte more.
  pub kept_more : (b : ℕ) → n < length o₀ → Kept (w ++ (b ∷ [])) o₀ (set o n b) (n + 1)
  kept_more b h = go (fits w o₀)
    where
      go : Fits w o₀ → Kept (w ++ (b ∷ [])) o₀ (set o n b) (n + 1)
      go (some_of l e) = absurd (omega (arith, k.count, e))
      go (all_of l e) =
          let nw : length w ≡ n = sym (k.count ∙ ap length e) in
          let l₁ : length (w ++ (b ∷ [])) ≡ n + 1 = simp length-append (omega arith) in
          let e₁ = take_all (length o₀) (w ++ (b ∷ [])) (omega arith) in
          let was : o ≡ w ++ drop n o₀ = k.bytes ∙ rw (e, nw) in
          record { count = rw (e₁, l₁); bytes = rw (was, e₁, l₁) (put_next w o₀ n b nw h) }

  -- No byte more.
  pub kept_full : (v : List ℕ) → length o₀ ≤ n → Kept (w ++ v) o₀ o n
  kept_full v h = go (fits w o₀)
    where
      long : length o₀ ≤ length w → Kept (w ++ v) o₀ o n
      long l = let e = take-append-le (length o₀) w v l in record { count = k.count ∙ rw e; bytes = k.bytes ∙ rw e }

      go : Fits w o₀ → Kept (w ++ v) o₀ o n
      go (some_of l e) = long l
      go (all_of l e) = long (omega (arith, k.count, ap length e))

-- What is put behind the first k bytes of a room.
module _ (s w : List ℕ) (count k : ℕ) (e : k ≡ min count (length s)) (ys : List ℕ) (m : ℕ) (kept : Kept w (mid_of k (length s - k) s) ys m) where
  within : k ≤ length s
  within = omega (arith, e, min-le_right count (length s))

  rest : mid_of k (length s - k) s ≡ drop k s
  rest = take_all (length s - k) (drop k s) (simp length-drop (omega arith))

  head : length (take k s) ≡ k
  head = length-take-le k s within

  left : length (drop k s) ≡ length s - k
  left = length-drop k s

  front : take (length s) (take count s ++ w) ≡ take k s ++ take (length s - k) w
  front =
      let h = within in
      let same : take k s ≡ take count s = rw e (take_min count s) in
      let size : length s ≡ length (take k s) + (length s - k) = omega (arith, head) in
      ap (λ (l : List ℕ). take (length s) (l ++ w)) (sym same)
      ∙ ap (λ (n : ℕ). take n (take k s ++ w)) size ∙ take-append-add (take k s) w (length s - k)

  pub kept_behind : Kept (take count s ++ w) s (put_mid k (length s - k) s ys) (k + m)
  kept_behind =
      let c : m ≡ length (take (length s - k) w) = kept.count ∙ rw (rest, left) in
      let b : ys ≡ take (length s - k) w ++ drop m (drop k s) = kept.bytes ∙ rw (rest, left, ← c) in
      let size : k + m ≡ length (take k s ++ take (length s - k) w) = simp length-append (omega (arith, head)) in
      let behind : post_of k (length s - k) s ≡ [] = drop_of_length-le (drop k s) {i = length s - k} (omega (arith, left)) in
      record {
        count = rw front size;
        bytes =
            rw (front, ← size, b, behind, append-nil)
            (rw (← (drop-drop m k s)) (sym (append_assoc (take k s) (take (length s - k) w) _)));
      }
