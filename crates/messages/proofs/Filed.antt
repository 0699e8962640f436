-- What holds of every kind of the list holds of the kind that an opcode finds; and that kind has the opcode.
use mathlib.Core.Path.{◌≡◌, refl, sym, ap, subst}
use mathlib.Core.Bool.{Bool, true, false, cond}
use mathlib.Core.List.{List, [], ◌∷◌}
use Prim.Native.Nat.{ℕ, ◌+◌, ◌*◌, ◌≤◌}
use native.Mathlib.Omega.{arith}
use lib.Dec.{T, eqb, eqb→eq, leb→le}
use borrow.Author.Tests.{eqb-true}
use Rattle.answers.specs.Lists.{All}
use Rattle.ranges.proofs.Below.{parts}
use Rattle.messages.specs.Kinds.{Kind, of_dump, of_short, unknown, kinds, opcode_of, among, kind_of, Filed, is_unknown, size_of, count_of, master}
use Rattle.messages.specs.code.Sizes.{sized}

among_all : (P : Kind → Type 0) → P unknown → (ks : List Kind) → All P ks → (o : ℕ) → P (among ks o)
among_all P u [] a o = u
among_all P u (k ∷ ks) a o = by_test (eqb o (opcode_of k)) (among_all P u ks a.1 o)
  where
    by_test : (t : Bool) → P (among ks o) → P (cond t k (among ks o))
    by_test true r = a.0
    by_test false r = r

pub every_kind : (P : Kind → Type 0) → P unknown → All P kinds → (o : ℕ) → P (kind_of o)
unfolding kind_of
every_kind P u a o = among_all P u kinds a o

among_opcode : (ks : List Kind) (o : ℕ) → is_unknown (among ks o) ≡ false → o ≡ opcode_of (among ks o)
among_opcode [] o h = let z : ◌≡◌ {A = ℕ} 0 1 = cc in absurd (omega arith)
among_opcode (k ∷ ks) o h = by_test (eqb o (opcode_of k)) refl (among_opcode ks o) h
  where
    Right : Kind → Type 0
    Right f = is_unknown f ≡ false → o ≡ opcode_of f

    by_test : (t : Bool) → eqb o (opcode_of k) ≡ t → Right (among ks o) → Right (cond t k (among ks o))
    by_test true q r h = eqb-true o (opcode_of k) q
    by_test false q r h = r h

pub found_opcode : (o : ℕ) → is_unknown (kind_of o) ≡ false → o ≡ opcode_of (kind_of o)
unfolding kind_of
found_opcode o h = among_opcode kinds o h

-- What is found is one of the kinds.
pub found_filed : (o : ℕ) → is_unknown (kind_of o) ≡ false → Filed (kind_of o)
found_filed o h = sym (ap kind_of (found_opcode o h))

-- Each kind has the length that its parts add up to, and fits.
abbrev pub Sized : Kind → Type 0
Sized (of_dump k) = (k.length ≡ 7 + 2 * size_of k.packed) × (size_of k.packed ≤ master)
Sized (of_short k) = (k.length ≡ 5 + count_of k.operands) × (count_of k.operands ≤ 4)
Sized unknown = Unit {0}

pub is_sized : (k : Kind) → T (sized k) → Sized k
is_sized (of_dump k) e = let q = parts (eqb k.length (7 + 2 * size_of k.packed)) _ e in (eqb→eq _ _ q.0, leb→le _ _ q.1)
is_sized (of_short k) e = let q = parts (eqb k.length (5 + count_of k.operands)) _ e in (eqb→eq _ _ q.0, leb→le _ _ q.1)
is_sized unknown e = tt

pub kind_sized : (o : ℕ) → T (sized (kind_of o))
kind_sized = every_kind (λ k. T (sized k)) tt (omega arith)

pub filed_sized : (k : Kind) → Filed k → Sized k
filed_sized k f = is_sized k (subst (λ (k : Kind). T (sized k)) f (kind_sized (opcode_of k)))

-- Each kind of the list is found by its own opcode: no two have the same.
pub all_filed : All Filed kinds
unfolding kind_of
all_filed = (refl, (refl, (refl, (refl, (refl, (refl, (refl, (refl, (refl, (refl, (refl, tt)))))))))))
