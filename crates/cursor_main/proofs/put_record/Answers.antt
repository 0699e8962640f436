-- The word and then the four bytes.
use Rattle.text.specs.Text.{ascii}
use Rattle.text.proofs.Puts.{gains_then, holds_emptied}
use Rattle.cursor_main.proofs.put_record.Goals as goal

pub returns : goal.returns
unfolding ascii
returns c = holds_emptied c.clear.ensures (gains_then c.put.ensures (gains_then c.put_spaced.ensures c.put_number.ensures))
