-- The one line or the other, by the input's length.
use native.Mathlib.Omega.{arith}
use Rattle.text.specs.Text.{ascii}
use Rattle.listing.specs.Listing.{header, too_long}
use Rattle.listing.specs.code.Pieces.{calls_left}
use Rattle.listing.proofs.Steps.{whole_long, whole_starts}
use Rattle.listing.proofs.put_first.Goals as goal

pub returns-then-s-gt-MOST : goal.returns-then-s-gt-MOST
unfolding too_long ascii calls_left
returns-then-s-gt-MOST c =
    let text = whole_long c.args.s.now (omega arith) in
    record { added = too_long; text = text; few = omega arith; gains = c.put_too_long.ensures; fewer = omega arith }

pub returns : goal.returns
unfolding header ascii calls_left
returns c =
    let text = whole_starts c.args.s.now (omega arith) in
    record { added = header; text = text; few = omega arith; gains = c.put.ensures; fewer = omega arith }
