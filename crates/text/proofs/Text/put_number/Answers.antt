use Rattle.text.proofs.Digits.{decimal_same}
use Rattle.text.proofs.Text.put_number.Goals as goal

pub returns : goal.returns
returns c = rw (decimal_same c.args.n c.ranges.n.fits) at c.put_integer.ensures
