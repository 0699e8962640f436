-- The row that is read is the place's, whose parameter is 255 where it has none.
use Rattle.std.proofs.Common.{[], ◌≡◌, ◌≤◌, ◌<◌, sym, ap, ◌∙◌, Some, unwrap_or, arith}
use Rattle.std.specs.Option.{option_copied}
use mathlib.Core.Option.{some}
use Rattle.fields.specs.Fields.{fields, parameter_at}
use Rattle.fields.specs.code.Lookups.{found_parameter, row_at}
use Rattle.fields.proofs.Listing.{row, row_read}
use Rattle.fields.proofs.Places.{no_parameter_at}
use Rattle.fields.proofs.Rules.{past_unnumbered, parameter_here}
use Rattle.fields.proofs.parameter_of.Goals.{After-get}
use Rattle.fields.proofs.parameter_of.Goals as goal

read : (p : After-get) → unwrap_or (option_copied p.get.result) (row []) ≡ row_at p.args.place.0
unfolding fields
read p = p.get.ensures.lookup.4 (omega arith) (row []) ∙ row_read p.args.place.0

pub returns-in_err-parameter : goal.returns-in_err-parameter
returns-in_err-parameter c =
    let past : 134 ≤ c.args.place.0 = c.in_err-parameter.ensures.lookup.3 in
    c.from_residual.ensures ∙ sym (ap found_parameter (past_unnumbered c.args.place.0 past))

pub returns-then-parameter : goal.returns-then-parameter
returns-then-parameter c =
    let k = c.args.place.0 in
    let was : c.get.result ≡ Some c.in_ok-parameter.field-0 = c.in_ok-parameter.was in
    let here = rw was at (read (goal.at.returns-then-parameter c).After-get) in
    sym (ap found_parameter (no_parameter_at k (ap (λ r. r.1) (sym here) ∙ c.if-parameter.true)))

pub returns : goal.returns
returns c =
    let k = c.args.place.0 in
    let was : c.get.result ≡ Some c.in_ok-parameter.field-0 = c.in_ok-parameter.was in
    let here = rw was at (read (goal.at.returns c).After-get) in
    let inside : k < 134 = c.in_ok-parameter.ensures.lookup.3.0 in
    let number : parameter_at k ≡ c.in_ok-parameter.field-0.now.1 = ap (λ r. r.1) (sym here) in
    sym (ap found_parameter (parameter_here k inside (λ e. c.if-parameter.false (sym number ∙ e)) ∙ ap some number))
