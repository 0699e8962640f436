-- Numbers one behind the other, and how long they are.
use mathlib.Core.Path.{◌≡◌}
use mathlib.Core.List.{List, [], ◌∷◌, ◌++◌, append_assoc, append-nil}
use Prim.Native.Nat.{ℕ, zero, suc, ◌+◌, ◌*◌, ◌/◌, ◌<◌, ◌≤◌}
use native.Mathlib.Decide.{dec_le}
use native.Mathlib.Omega.{arith}
use lib.IntN.{ℤ, pos, negsuc}
use lib.ListN.{length, take, get_or, length-append}
use borrow.Author.Tests.{lt-ltb, le-ltb}
use Rattle.text.specs.Text.{ascii, digits_of, followed, signed, spaced}

-- The numbers up to an index and the one there.
pub spaced_more : (ns : List ℕ) (i : ℕ) → i < length ns → spaced (take (i + 1) ns) ≡ spaced (take i ns) ++ followed (get_or ns i 0) 0x20
unfolding spaced
spaced_more [] i h = absurd (omega arith)
spaced_more (n ∷ ns) zero h = append-nil (followed n 0x20)
spaced_more (n ∷ ns) (suc i) h =
    let next : suc i + 1 ≡ suc (i + 1) = omega arith in
    rw (next, spaced_more ns i (omega arith)) (simp append_assoc)

-- At most k digits.
digits_most : (k n : ℕ) → length (digits_of k n) ≤ k
unfolding digits_of
digits_most zero n = omega arith
digits_most (suc k) n = by_size (dec_le 10 n) (digits_most k (n / 10))
  where
    by_size : Dec (10 ≤ n) → length (digits_of k (n / 10)) ≤ k → length (digits_of (suc k) n) ≤ suc k
    by_size (yes h) i = rw (le-ltb n 10 h, length-append) (omega arith)
    by_size (no h) i = rw (lt-ltb n 10 (omega (arith, h))) (omega arith)

-- A number and the byte behind it take at most 21 bytes.
pub followed_most : (n b : ℕ) → length (followed n b) ≤ 21
followed_most n b = let d = digits_most 20 n in simp length-append (omega arith)

-- With a sign one more.
pub signed_most : (v : ℤ) (b : ℕ) → length (signed v b) ≤ 22
unfolding ascii
signed_most (pos n) b = let f = followed_most n b in omega arith
signed_most (negsuc n) b = let f = followed_most (suc n) b in omega arith

pub spaced_most : (ns : List ℕ) → length (spaced ns) ≤ 21 * length ns
unfolding spaced
spaced_most [] = omega arith
spaced_most (n ∷ ns) = let i = spaced_most ns in let f = followed_most n 0x20 in rw length-append (omega arith)
