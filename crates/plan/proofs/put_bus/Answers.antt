-- The place, the word, the bus, and its values in the one patch and in the other.
use Rattle.text.specs.Text.{ascii}
use Rattle.text.proofs.Puts.{gains_then}
use Rattle.plan.proofs.put_bus.Goals as goal

pub returns : goal.returns
unfolding ascii
returns c =
    gains_then c.put_number.ensures
    (gains_then c.put.ensures (gains_then c.put_number-2.ensures (gains_then c.put_values.ensures c.put_values-2.ensures)))
