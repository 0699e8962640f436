-- The columns of the code are those of specs/.
use Rattle.std.proofs.Common.{arith}
use Rattle.fields.specs.Fields.{fields}
use Rattle.fields.proofs.Listing.{in_columns, in_range_past}
use Rattle.fields.proofs.in_range.Goals as goal

pub returns-then-k-ge-PLACES : goal.returns-then-k-ge-PLACES
returns-then-k-ge-PLACES c = in_range_past c.args.place.0 c.args.b c.if-k-ge-PLACES.true (omega arith)

pub returns : goal.returns
unfolding fields
returns c = in_columns c.args.place.0 c.args.b (omega arith)
