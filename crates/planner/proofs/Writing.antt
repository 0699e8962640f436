-- A list that is written message after message: an output in which the first at bytes of a whole are written, and what is left to be.
use mathlib.Core.Path.{◌≡◌, ap, ◌∙◌}
use mathlib.Core.List.{List, ◌++◌, append_assoc}
use Prim.Native.Nat.{ℕ, ◌+◌, ◌-◌, ◌≤◌}
use native.Mathlib.Omega.{arith}
use lib.ListN.{length, take, drop, length-append}
use borrow.Rule.Slice.PartMut.{put_mid}
use Rattle.answers.specs.Effect.{at_start}
use Rattle.answers.proofs.Lists.{then_part}

pub record Writing (whole out : List ℕ) (at : ℕ) (left after : List ℕ) : Type 0 where
  pub written : List ℕ
  pub split : whole ≡ written ++ left
  pub size : length written ≡ at
  pub put : after ≡ written ++ drop at out

pub counted : {whole out left after : List ℕ} {at : ℕ} → Writing whole out at left after → length whole ≡ at + length left
counted {left = left} w = omega (arith, ap length w.split, length-append w.written left, w.size)

-- The message m more.
pub one_more : {whole out left after ys : List ℕ} {at n : ℕ} (m more : List ℕ) → Writing whole out at left after → left ≡ m ++ more → length m ≡ n
    → at + n ≤ length out → ys ≡ at_start m (take (length after - at) (drop at after))
    → Writing whole out (at + n) more (put_mid at (length after - at) after ys)
one_more {out = out} {after = after} {ys = ys} {at = at} {n = n} m more w e l h ey = record {
  written = w.written ++ m;
  split = w.split ∙ rw (e, append_assoc);
  size = omega (arith, length-append w.written m, w.size);
  put = then_part w.written m out after ys at n w.size l h w.put (rw l at ey);
}
