-- A number in two's complement, back as the value that it stands for.
use Rattle.std.proofs.Common.{◌≡◌, suc, ◌-◌, ◌^◌, ◌<◌, ap, arith, lt-ltb, le-ltb, w16}
use lib.IntN.{ℤ, pos, negsuc}
use mir.Val.{SFits}
use Rattle.answers.specs.code.Numbers.{as_number, of_number}

-- A value of 16 bits is what its number stands for.
pub number_back : (v : ℤ) → SFits w16 v → of_number (as_number v) ≡ v
unfolding as_number of_number
number_back (pos n) f = let small : n < 2 ^ 15 = f.sfits in rw (lt-ltb n (2 ^ 63) (omega arith))
number_back (negsuc n) f =
    let small : n < 2 ^ 15 = f.sfits in
    rw (le-ltb (2 ^ 64 - suc n) (2 ^ 63) (omega arith)) (ap negsuc (omega arith))
