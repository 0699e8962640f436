-- A content longer than that of any kind comes to what its first three bytes say: maker, device and opcode are told by them, and then it is too long.
use mathlib.Core.Path.{◌≡◌, refl}
use mathlib.Core.Bool.{Bool, true, false, not}
use mathlib.Core.List.{List, [], ◌∷◌}
use Prim.Native.Nat.{ℕ, ◌≤◌, ◌<◌}
use native.Mathlib.Omega.{arith}
use lib.Dec.{eqb, leb}
use lib.ListN.{length, take, get_or}
use lib.Seq.{take_all, length-take-le, get_or-take}
use borrow.Author.Tests.{ne_eqb, leb-true, leb-false}
use Rattle.answers.specs.Table.{Verdict, refused, first, row, outcome}
use Rattle.streams.specs.Bytes.{framed}
use Rattle.messages.specs.Kinds.{Kind, of_dump, of_short, unknown, kind_of, length_of, is_unknown, maker, device}
use Rattle.messages.specs.Judge.{byte_at, judge}
use Rattle.messages.proofs.Filed.{Sized, is_sized, kind_sized}
use Rattle.messages.proofs.Content.{framed_length, framed_byte}

-- The longest message has 351 bytes.
longest : (k : Kind) → Sized k → length_of k ≤ 351
longest (of_dump k) s = omega arith
longest (of_short k) s = omega arith
longest unknown s = omega arith

-- What is too long for its kind comes to, by the bytes of maker, device and opcode.
abbrev too_long : ℕ → ℕ → ℕ → Verdict
too_long m d o = first (row 4 (not (eqb m maker)) ∷ row 5 (not (eqb d device)) ∷ row 6 (is_unknown (kind_of o)) ∷ []) (refused (outcome 7 0))

long_judged : (c : List ℕ) → 349 < length c → judge (framed c) ≡ too_long (get_or c 0 0) (get_or c 1 0) (get_or c 2 0)
unfolding judge
long_judged c h =
    let o = byte_at (framed c) 3 in
    let most = longest (kind_of o) (is_sized (kind_of o) (kind_sized o)) in
    let other = ne_eqb (length (framed c)) (length_of (kind_of o)) (λ e. omega (arith, framed_length c)) in
    rw (other, framed_byte c 0 (omega arith), framed_byte c 1 (omega arith), framed_byte c 2 (omega arith))

-- As many bytes of a content as a message can have at most, and so as many as n, come to the same as all of it.
pub judge_kept : (n : ℕ) → 349 < n → (c : List ℕ) → judge (framed (take n c)) ≡ judge (framed c)
judge_kept n h c = by_length (leb n (length c)) refl
  where
    by_length : (v : Bool) → leb n (length c) ≡ v → judge (framed (take n c)) ≡ judge (framed c)
    by_length true q =
        let l = length-take-le n c (leb-true n (length c) q) in
        let a = long_judged (take n c) (omega arith) in
        rw (a, long_judged c (omega (arith, leb-true n (length c) q)), get_or-take n c 0 0 (omega arith), get_or-take n c 1 0 (omega arith), get_or-take n c 2 0 (omega arith))
    by_length false q = rw (take_all n c (omega (arith, leb-false n (length c) q)))
