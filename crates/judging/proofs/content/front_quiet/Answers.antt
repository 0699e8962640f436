-- `front_quiet` puts the four bytes together bit by bit: none of them is above what they come to.
use mathlib.Core.Path.{◌≡◌, ap}
use mathlib.Core.Bool.{Bool, cond}
use mathlib.Core.List.{List}
use Prim.Native.Nat.{ℕ, zero, suc, ◌≤◌, ◌<◌}
use native.Mathlib.Omega.{arith}
use lib.Bits.{bit_or}
use lib.ListN.{get_or}
use borrow.Author.Tests.{ltb-true}
use Rattle.std.proofs.lemmas.Nat.{le_or_l, le_or_r}
use Rattle.judging.proofs.content.front_quiet.Goals as goal

pub returns-then-body-lt-FRONT : goal.returns-then-body-lt-FRONT
returns-then-body-lt-FRONT c e = let z : ◌≡◌ {A = ℕ} 0 1 = ap (λ (t : Bool). cond t 1 0) e in absurd (omega arith)

pub returns : goal.returns
returns c e =
    let b = c.args.body.now in
    let two = bit_or (get_or b 0 0) (get_or b 1 0) in
    let three = bit_or two (get_or b 2 0) in
    let all = ltb-true (bit_or three (get_or b 3 0)) 128 e in
    let last = le_or_r three (get_or b 3 0) in
    let most = le_or_l three (get_or b 3 0) in
    let third = le_or_r two (get_or b 2 0) in
    let less = le_or_l two (get_or b 2 0) in
    let second = le_or_r (get_or b 0 0) (get_or b 1 0) in
    let first = le_or_l (get_or b 0 0) (get_or b 1 0) in
    record {
      four = omega (arith, c.if-body-lt-FRONT.false);
      quiet = λ i h. by_index b i h (omega arith) (omega arith) (omega arith) (omega arith);
    }
  where
    by_index : (b : List ℕ) (i : ℕ) → i < 4 → get_or b 0 0 ≤ 0xF7 → get_or b 1 0 ≤ 0xF7 → get_or b 2 0 ≤ 0xF7 → get_or b 3 0 ≤ 0xF7 → get_or b i 0 ≤ 0xF7
    by_index b zero h p q r s = p
    by_index b (suc zero) h p q r s = q
    by_index b (suc (suc zero)) h p q r s = r
    by_index b (suc (suc (suc zero))) h p q r s = s
    by_index b (suc (suc (suc (suc i)))) h p q r s = absurd (omega arith)
