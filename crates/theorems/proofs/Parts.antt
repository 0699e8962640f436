-- A list of reports that stand in three parts by where they start is told apart by where they start.
-- Each test is constant on each part.
use mathlib.Core.Path.{◌≡◌, refl, ◌∙◌}
use mathlib.Core.Bool.{Bool, true, false, cond, ◌&&◌}
use mathlib.Core.List.{List, [], ◌∷◌, ◌++◌, append-nil}
use Prim.Native.Nat.{ℕ, ◌≤◌, ◌<◌}
use native.Mathlib.Omega.{arith}
use lib.Dec.{leb, ltb}
use borrow.Author.Tests.{lt-ltb, le-ltb, le-leb, lt-leb}
use Rattle.answers.specs.Lists.{All}
use Rattle.answers.proofs.Lists.{all_weaken}
use Rattle.streams.specs.Stream.{Report}
use Rattle.theorems.specs.Damage.{keep, start_before, start_within, start_from}

-- What holds of every report holds of those that are kept.
pub all_keep : (P : Report → Type 0) (t : Report → Bool) (l : List Report) → All P l → All P (keep t l)
all_keep P t [] a = tt
all_keep P t (r ∷ l) a = by_test (t r) (all_keep P t l a.1)
  where
    by_test : (b : Bool) → All P (keep t l) → All P (cond b (r ∷ keep t l) (keep t l))
    by_test true i = (a.0, i)
    by_test false i = i

keep_append : (t : Report → Bool) (l m : List Report) → keep t (l ++ m) ≡ keep t l ++ keep t m
keep_append t [] m = refl
keep_append t (r ∷ l) m = rw (keep_append t l m) (by_test (t r))
  where
    by_test : (b : Bool) → cond b (r ∷ (keep t l ++ keep t m)) (keep t l ++ keep t m) ≡ cond b (r ∷ keep t l) (keep t l) ++ keep t m
    by_test true = refl
    by_test false = refl

-- A test that has one value on a list keeps all of it or nothing.
keep_constant : (t : Report → Bool) (b : Bool) (l : List Report) → All (λ r. t r ≡ b) l → keep t l ≡ cond b l []
keep_constant t true [] a = refl
keep_constant t true (r ∷ l) a = rw (a.0, keep_constant t true l a.1)
keep_constant t false [] a = refl
keep_constant t false (r ∷ l) a = rw a.0 (keep_constant t false l a.1)

pub keep_all : (t : Report → Bool) (l : List Report) → All (λ r. t r ≡ true) l → keep t l ≡ l
keep_all t l a = keep_constant t true l a

pub keep_none : (t : Report → Bool) (l : List Report) → All (λ r. t r ≡ false) l → keep t l ≡ []
keep_none t l a = keep_constant t false l a

-- The list l has the parts x, y and z: what starts before m, from m on and before n, and from k on.
pub record Parted (m n k : ℕ) (l x y z : List Report) : Type 0 where
  pub before : start_before m l ≡ x
  pub within : start_within m n l ≡ y
  pub behind : start_from k l ≡ z

module _ (m n k : ℕ) (some_bytes : m < k) (no-overlap : n ≤ k) (x y z : List Report)
    (ax : All (λ r. r.start < m) x) (ay : All (λ r. (m ≤ r.start) × (r.start < n)) y) (az : All (λ r. k ≤ r.start) z) where
  kept : (t : Report → Bool) (a b c : Bool) → ((r : Report) → r.start < m → t r ≡ a) → ((r : Report) → (m ≤ r.start) × (r.start < n) → t r ≡ b)
      → ((r : Report) → k ≤ r.start → t r ≡ c) → keep t (x ++ (y ++ z)) ≡ cond a x [] ++ (cond b y [] ++ cond c z [])
  kept t a b c fx fy fz =
      rw (
        keep_append t x (y ++ z),
        keep_append t y z,
        keep_constant t a x (all_weaken _ _ fx x ax),
        keep_constant t b y (all_weaken _ _ fy y ay),
        keep_constant t c z (all_weaken _ _ fz z az),
      )

  -- Lists of such reports, one behind the other, are these parts.
  pub parted : Parted m n k (x ++ (y ++ z)) x y z
  parted = record {
    before =
        kept (λ r. ltb r.start m) true false false
        (λ r h. lt-ltb r.start m h) (λ r h. le-ltb r.start m h.0) (λ r h. le-ltb r.start m (omega arith))
        ∙ append-nil x;
    within =
        kept (λ r. leb m r.start && ltb r.start n) false true false
        (λ r h. rw (lt-leb m r.start h))
        (λ r h. rw (le-leb m r.start h.0, lt-ltb r.start n h.1))
        (λ r h. rw (le-leb m r.start (omega arith), le-ltb r.start n (omega arith)))
        ∙ append-nil y;
    behind =
        kept (λ r. leb k r.start) false false true
        (λ r h. lt-leb k r.start (omega arith)) (λ r h. lt-leb k r.start (omega arith)) (λ r h. le-leb k r.start h);
  }
