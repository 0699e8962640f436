-- Each call hands on a shorter rest.
use Rattle.std.proofs.Common.{length}
use Rattle.reading.proofs.listing.+list_inside_list_outside.Given as goal

abbrev pub decreases-list_inside : goal.decreases-list_inside
decreases-list_inside l = length l.rest.now

abbrev pub decreases-list_outside : goal.decreases-list_outside
decreases-list_outside l = length l.rest.now
