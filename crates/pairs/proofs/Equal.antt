-- Bytes that are the same are equal lists, and back; so `==` on slices tells it.
use Rattle.std.proofs.Common.{◌≡◌, refl, true, List, ℕ, nat_eq, Decides}
use Rattle.std.specs.Cmp.Lexicographic.{pointwise}
use Rattle.std.proofs.lemmas.Bool.Decides.{same_from_decides}
use Rattle.std.proofs.lemmas.Slice.Eq.{bytes_eq-Decides, compares_Decides}
use Rattle.pairs.specs.Pairs.{same_bytes}

pub same_decides : (a b : List ℕ) → Decides (same_bytes a b) (a ≡ b)
unfolding same_bytes
same_decides =
    compares_Decides same_bytes
    (record { empty = refl; shorter = λ y b. refl; longer = λ x a. refl; heads = λ x y a b. refl })

pub same_refl : (a : List ℕ) → same_bytes a a ≡ true
same_refl a = (same_decides a a).1 refl

pub same_equal : (a b : List ℕ) → same_bytes a b ≡ true → a ≡ b
same_equal a b = (same_decides a b).0

pub same_pointwise : (a b : List ℕ) → pointwise nat_eq a b ≡ same_bytes a b
same_pointwise a b = same_from_decides _ _ (bytes_eq-Decides a b) (same_decides a b)
