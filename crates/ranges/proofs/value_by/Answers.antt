-- With its sign where the field is signed; else the byte itself.
use Rattle.std.proofs.Common.{to_z-of_z}
use Rattle.ranges.specs.Values.{value_by}
use Rattle.ranges.proofs.value_by.Goals as goal

pub returns-then-signed : goal.returns-then-signed
unfolding value_by
returns-then-signed c = rw (to_z-of_z (record { sfits = c.with_sign.type_inv }), c.if-signed.true) c.with_sign.ensures

pub returns : goal.returns
unfolding value_by
returns c = rw (to_z-of_z (record { sfits = c.from.type_inv }), c.if-signed.false) c.from.ensures
