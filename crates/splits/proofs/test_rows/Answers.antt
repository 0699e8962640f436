-- `test_rows` leaves a split to the test of bytes by a table: its rows in code are those of the definition.
use Rattle.splits.specs.Splits.{split_fields}
use Rattle.splits.proofs.test_rows.Goals as goal

pub returns : goal.returns
unfolding split_fields
returns c = c.test.ensures
