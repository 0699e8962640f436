-- A value of 16 bits keeps its sign at 64, and a value below zero is there 2 ^ 64 less its size.
use Rattle.std.proofs.Common.{◌≡◌, refl, to_z-of_z, of_z, w16, w64}
use mir.Val.{SFits}
use lib.IntN.{ℤ, pos, negsuc}
use Rattle.answers.specs.code.Numbers.{as_number}
use Rattle.answers.proofs.as_number.Goals as goal

bits_of : (v : ℤ) → SFits w16 v → of_z w64 v ≡ as_number v
unfolding as_number
bits_of (pos n) f = refl
bits_of (negsuc n) f = refl

pub returns : goal.returns
returns c =
    rw (c.cast_unsigned.ensures, to_z-of_z (record { sfits = c.from.type_inv }), c.from.ensures, to_z-of_z c.ranges.value) (bits_of c.args.value c.ranges.value)
