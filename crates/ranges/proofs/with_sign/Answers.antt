-- A byte below 128 is itself, another one is 256 less, which is below zero.
use Rattle.std.proofs.Common.{◌≡◌, ℕ, ◌<◌, ◌-◌, suc, Bool, true, false, ltb, refl, arith, to_z, to_z-of_z, w8}
use Rattle.ranges.specs.Values.{value_of}
use Rattle.ranges.proofs.Tables.{lacking}
use Rattle.ranges.proofs.with_sign.Goals as goal

signed_byte : (b : ℕ) → b < 256 → to_z w8 b ≡ value_of b
unfolding value_of
signed_byte b h = go (ltb b 128) refl
  where
    go : (t : Bool) → ltb b 128 ≡ t → to_z w8 b ≡ value_of b
    go true e = simp e
    go false e = let same : 256 - suc b ≡ 255 - b = omega arith in simp (e, lacking b h, same)

pub returns : goal.returns
returns c =
    rw (to_z-of_z (record { sfits = c.from.type_inv }), c.from.ensures, to_z-of_z (record { sfits = c.cast_signed.type_inv }), c.cast_signed.ensures)
    (signed_byte c.args.b (omega arith))
