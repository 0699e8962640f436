-- The bounds are those of the row.
use Rattle.ranges.specs.Ranges.{in_row}
use Rattle.ranges.proofs.in_row.Goals as goal

pub returns : goal.returns
unfolding in_row
returns c = let row = c.row_of-row.ensures in rw (← row.0, ← row.1) c.lies_between.ensures
