-- The four columns one behind the other.
use Rattle.text.proofs.Puts.{gains_then}
use Rattle.table_main.specs.Table.{table_row}
use Rattle.table_main.proofs.put_field.Goals as goal

pub returns : goal.returns
unfolding table_row
returns c =
    let least = rw c.least_of.ensures at c.put_value.ensures in
    let greatest = rw c.greatest_of.ensures at c.put_value-2.ensures in
    gains_then c.put_number.ensures (gains_then c.put_parameter.ensures (gains_then least greatest))
