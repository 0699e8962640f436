-- The bytes are compared one after the other, a parameter's one or the three of a bus, as `same_bytes` does.
use Rattle.std.proofs.Common.{◌≡◌, ℕ, suc, cond, ltb, ◌+◌, ◌<◌, ◌≤◌, ◌&&◌, Bool, true, false, eqb, List, length, get_or, take, drop, sym, arith, drop-cons, add-one}
use borrow.Author.Tests.{eq-eqb, ne_eqb}
use Rattle.pairs.specs.Pairs.{same_bytes}
use Rattle.edit_lists.specs.Plan.{same_at}
use Rattle.edit_lists.proofs.Parts.{width_field, width_bus}
use Rattle.edit_lists.proofs.Count.{one_byte}
use Rattle.planner.proofs.parts.Part.is_same.Goals as goal

-- Two bytes and those behind them.
first_byte : (a b : List ℕ) (n i : ℕ) → i < length a → i < length b
    → same_bytes (take (suc n) (drop i a)) (take (suc n) (drop i b))
    ≡ (eqb (get_or a i 0) (get_or b i 0) && same_bytes (take n (drop (i + 1) a)) (take n (drop (i + 1) b)))
unfolding same_bytes
first_byte a b n i h l = rw (drop-cons a i 0 h, drop-cons b i 0 l, add-one i)

three : (a b : List ℕ) (k : ℕ) → 104 ≤ k → k + 2 < length a → k + 2 < length b
    → same_at k a b ≡ (eqb (get_or a k 0) (get_or b k 0)
    && (eqb (get_or a (k + 1) 0) (get_or b (k + 1) 0) && eqb (get_or a (k + 2) 0) (get_or b (k + 2) 0)))
three a b k h l m =
    let behind : k + 1 + 1 ≡ k + 2 = omega arith in
    rw (width_bus k h, first_byte a b 2 k (omega arith) (omega arith), first_byte a b 1 (k + 1) (omega arith) (omega arith), behind, one_byte a b (k + 2) l m)

-- Where the first bytes differ, so do one and three.
differs : (a b : List ℕ) (k : ℕ) (t : Bool) → k < length a → k < length b → eqb (get_or a k 0) (get_or b k 0) ≡ false
    → same_bytes (take (cond t 1 3) (drop k a)) (take (cond t 1 3) (drop k b)) ≡ false
differs a b k true h l e = rw (first_byte a b 0 k h l, e)
differs a b k false h l e = rw (first_byte a b 2 k h l, e)

pub returns-then-a-k : goal.returns-then-a-k
returns-then-a-k c =
    let k = c.args.self.place in
    sym (differs c.args.a.now c.args.b.now k (ltb k 104) (omega arith) (omega arith) (ne_eqb _ _ c.if-a-k.true))

pub returns-then-k-lt-SOURCE_AT : goal.returns-then-k-lt-SOURCE_AT
returns-then-k-lt-SOURCE_AT c =
    let k = c.args.self.place in
    rw (width_field k c.if-k-lt-SOURCE_AT.true, one_byte c.args.a.now c.args.b.now k (omega arith) (omega arith), eq-eqb _ _ c.if-a-k.false)

pub returns-then-a-k-2 : goal.returns-then-a-k-2
returns-then-a-k-2 c =
    let all = three c.args.a.now c.args.b.now c.args.self.place c.if-k-lt-SOURCE_AT.false (omega arith) (omega arith) in
    rw (all, eq-eqb _ _ c.if-a-k.false, eq-eqb _ _ c.if-a-k-2.true)

pub returns-else-a-k-2 : goal.returns-else-a-k-2
returns-else-a-k-2 c =
    let all = three c.args.a.now c.args.b.now c.args.self.place c.if-k-lt-SOURCE_AT.false (omega arith) (omega arith) in
    rw (all, eq-eqb _ _ c.if-a-k.false, ne_eqb _ _ c.if-a-k-2.false)
