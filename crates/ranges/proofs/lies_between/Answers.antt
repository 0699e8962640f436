-- What is left of the byte and of the greatest above the least, compared.
use Rattle.std.proofs.Common.{◌≡◌, ◌+◌, ◌-◌, ◌%◌, refl, sym, arith}
use Rattle.ranges.proofs.Between.{between_width}
use Rattle.ranges.proofs.lies_between.Goals as goal

pub returns : goal.returns
returns c =
    let a = c.args in
    let back : ((a.b + (256 - a.least)) % 256 + a.least) % 256 ≡ a.b = omega arith in
    sym (between_width a.least a.greatest a.b _ _ (omega arith) (omega arith) (omega arith) (omega arith) back refl)
