-- Laws of lists, of what holds of every element, and of a lent buffer that is filled from its start.
-- Each goes by the list's elements, or by the laws of `take`, `drop` and `++`.
use mathlib.Core.Path.{◌≡◌, refl, ap, ◌∙◌}
use mathlib.Core.List.{List, [], ◌∷◌, ◌++◌, append_assoc, append-nil}
use Prim.Native.Nat.{ℕ, zero, suc, ◌+◌, ◌-◌, ◌<◌, ◌≤◌}
use native.Mathlib.Nat.{le_of_suc-le-suc}
use native.Mathlib.Omega.{arith}
use native.Mathlib.Numerals.{add-one}
use lib.ListN.{length, get_or, take, drop, set, length-append, length-drop, drop_of_length-le}
use lib.Seq.{drop-cons, set_at, take_all, take_at, drop_at, drop-drop}
use borrow.Rule.Slice.PartMut.{put_mid}
use Rattle.answers.specs.Lists.{All, bytes_from}

-- The part lent by `&s[a..]` is what is left of s from a on.
pub to_end : (a : ℕ) (s : List ℕ) → take (length s - a) (drop a s) ≡ drop a s
to_end a s = take_all (length s - a) (drop a s) (simp length-drop (omega arith))

-- A is written from the start of o; then one more byte.
pub put_next : (A o : List ℕ) (n x : ℕ) → length A ≡ n → n < length o → set (A ++ drop n o) n x ≡ (A ++ (x ∷ [])) ++ drop (n + 1) o
put_next A o n x e h = rw (drop-cons o n 0 h, set_at A (get_or o n 0) (drop (suc n) o) x n e) (simp (append_assoc, add-one))

-- An output after stores of bytes one after the other from place n on.
abbrev pub puts : ℕ → List ℕ → List ℕ → List ℕ
puts n [] o = o
puts n (b ∷ bs) o = puts (n + 1) bs (set o n b)

-- A is written from the start of o; then bs is written behind it.
pub puts_after : (A bs o xs : List ℕ) (n : ℕ) → length A ≡ n → n + length bs ≤ length o → xs ≡ A ++ drop n o
    → puts n bs xs ≡ (A ++ bs) ++ drop (n + length bs) o
puts_after A [] o xs n e h ex = let z : n + 0 ≡ n = omega arith in rw (ex, append-nil, z)
puts_after A (b ∷ bs) o xs n e h ex =
    let la : length (A ++ (b ∷ [])) ≡ n + 1 = omega (arith, length-append A (b ∷ [])) in
    let ly : n + 1 + length bs ≡ n + length (b ∷ bs) = omega arith in
    let here = ap (λ (l : List ℕ). set l n b) ex ∙ put_next A o n b e (omega arith) in
    puts_after (A ++ (b ∷ [])) bs o (set xs n b) (n + 1) la (omega arith) here ∙ rw ly (simp append_assoc)

-- A is written from the start of o; then Y is written into the part lent by `&mut o[a..]`, from A's end on, and the part comes back.
pub then_part : (A Y o xs ys : List ℕ) (a n : ℕ) → length A ≡ a → length Y ≡ n → a + n ≤ length o → xs ≡ A ++ drop a o
    → ys ≡ Y ++ drop n (take (length xs - a) (drop a xs)) → put_mid a (length xs - a) xs ys ≡ (A ++ Y) ++ drop (a + n) o
then_part A Y o xs ys a n la ly h ex ey =
    let back : drop a xs ≡ drop a o = ap (λ (l : List ℕ). drop a l) ex ∙ drop_at A (drop a o) a la in
    let front : take a xs ≡ A = ap (λ (l : List ℕ). take a l) ex ∙ take_at A (drop a o) a la in
    let lm : length (drop a o) ≤ length xs - a = rw (ex, length-append, length-drop) (omega arith) in
    rw (ey, back, front, take_all (length xs - a) (drop a o) lm, drop_of_length-le (drop a o) lm, drop-drop n a o) (simp (append_assoc, append-nil))

module _ {ℓ} {A : Type ℓ} (P : A → Type 0) where
  -- What holds of every element of two lists holds of every element of both, and back.
  pub all_append : (u v : List A) → All P u → All P v → All P (u ++ v)
  all_append [] v a b = b
  all_append (x ∷ u) v a b = (a.0, all_append u v a.1 b)

  pub all_left : (u v : List A) → All P (u ++ v) → All P u
  all_left [] v a = tt
  all_left (x ∷ u) v a = (a.0, all_left u v a.1)

  pub all_right : (u v : List A) → All P (u ++ v) → All P v
  all_right [] v a = a
  all_right (x ∷ u) v a = all_right u v a.1

  -- It holds of the first n.
  pub all_take : (n : ℕ) (u : List A) → All P u → All P (take n u)
  all_take zero u a = tt
  all_take (suc n) [] a = tt
  all_take (suc n) (x ∷ u) a = (a.0, all_take n u a.1)

  -- It holds of the element between u and v.
  pub all_at : (u : List A) (x : A) (v : List A) → All P (u ++ x ∷ v) → P x
  all_at [] x v a = a.0
  all_at (y ∷ u) x v a = all_at u x v a.1

  -- It holds of the element at an index.
  pub all_get : (s : List A) (i : ℕ) (d : A) → i < length s → All P s → P (get_or s i d)
  all_get [] i d h a = absurd (omega arith)
  all_get (x ∷ s) zero d h a = a.0
  all_get (x ∷ s) (suc i) d h a = all_get s i d (le_of_suc-le-suc h) a.1

-- What follows from a property of an element follows for every element.
pub all_weaken {ℓ} : {A : Type ℓ} (P Q : A → Type 0) → ((x : A) → P x → Q x) → (s : List A) → All P s → All Q s
all_weaken P Q f [] a = tt
all_weaken P Q f (x ∷ s) a = (f x a.0, all_weaken P Q f s a.1)

-- One of them replaced.
pub all_set : (P : ℕ → Type 0) (l : List ℕ) (j x : ℕ) → All P l → P x → All P (set l j x)
all_set P [] j x a h = tt
all_set P (y ∷ l) zero x a h = (h, a.1)
all_set P (y ∷ l) (suc j) x a h = (a.0, all_set P l j x a.1 h)

-- A list of so many bytes, spelled out.
from_next : (n i x : ℕ) (b : List ℕ) → bytes_from n (suc i) (x ∷ b) ≡ bytes_from n i b
from_next zero i x b = refl
from_next (suc n) i x b = rw (from_next n (suc i) x b)

pub spelled : (b : List ℕ) (n : ℕ) → length b ≡ n → b ≡ bytes_from n 0 b
spelled [] zero l = refl
spelled [] (suc n) l = absurd (omega arith)
spelled (x ∷ b) zero l = absurd (omega arith)
spelled (x ∷ b) (suc n) l = rw (from_next n 0 x b) (ap (◌∷◌ x) (spelled b n (omega arith)))
