-- The code's table is that of specs/, number for number.
use Rattle.std.proofs.Common.{[], ap, ◌∙◌, unwrap_or, arith}
use Rattle.fields.specs.Fields.{fields}
use Rattle.fields.proofs.Listing.{row, row_read}
use Rattle.fields.proofs.row_of.Goals as goal

pub returns : goal.returns
unfolding fields
returns c =
    c.unwrap_or.ensures ∙ ap (λ o. unwrap_or o (row [])) c.copied.ensures ∙ c.get.ensures.lookup.4 (omega arith) (row [])
    ∙ row_read c.args.place.0
