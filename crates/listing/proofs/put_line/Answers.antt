use mir.Facts.{to_z-of_z}
use Rattle.text.proofs.Puts.{gains_then}
use Rattle.listing.proofs.put_line.Goals as goal

pub returns : goal.returns
returns c =
    let value = rw (to_z-of_z c.ranges.value) at c.put_signed.ensures in
    gains_then c.put_spaced.ensures (gains_then value c.put_number.ensures)
