use mir.Facts.{to_z-of_z}
use Rattle.text.proofs.Digits.{signed_same}
use Rattle.text.proofs.Text.put_signed.Goals as goal

pub returns : goal.returns
returns c = rw (to_z-of_z c.ranges.n, signed_same c.args.n c.args.behind c.ranges.n) at c.put_integer.ensures
