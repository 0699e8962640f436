-- The bounds are those of the row.
use Rattle.std.proofs.Common.{to_z-of_z}
use Rattle.ranges.proofs.value_in.Goals as goal

pub returns : goal.returns
returns c =
    let row = c.row_of-row.ensures in
    rw (to_z-of_z (record { sfits = c.value_by.type_inv }), ← row.0, ← row.1) c.value_by.ensures
