use Rattle.text.specs.Text.{ascii}
use Rattle.text.proofs.Puts.{gains_then}
use Rattle.listing.specs.Listing.{total}
use Rattle.listing.proofs.put_total.Goals as goal

pub returns : goal.returns
unfolding total ascii
returns c = gains_then c.put.ensures c.put_number.ensures
