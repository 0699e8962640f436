use Rattle.text.specs.Text.{ascii}
use Rattle.listing.specs.Listing.{too_long}
use Rattle.listing.proofs.put_too_long.Goals as goal

pub returns : goal.returns
unfolding too_long ascii
returns c = c.put.ensures
