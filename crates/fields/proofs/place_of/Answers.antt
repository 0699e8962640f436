-- The byte that is read is the place that the table's search finds, 255 where it finds none.
use Rattle.std.proofs.Common.{◌≡◌, sym, ap, ◌∙◌, None, Some, unwrap_or, arith}
use Rattle.std.specs.Option.{option_copied}
use mathlib.Core.Option.{some}
use Rattle.fields.specs.Fields.{fields, place_of, search_from}
use Rattle.fields.specs.code.Lookups.{found_place, or_none}
use Rattle.fields.proofs.Places.{place_read, numbered_none, numbered_some, no_place_255}
use Rattle.fields.proofs.place_of.Goals.{After-get}
use Rattle.fields.proofs.place_of.Goals as goal

read : (p : After-get) → unwrap_or (option_copied p.get.result) 255 ≡ or_none (place_of p.args.parameter.0)
unfolding fields place_of search_from
read p = p.get.ensures.lookup.4 (omega arith) 255 ∙ place_read p.args.parameter.0

pub returns-in_err-place : goal.returns-in_err-place
returns-in_err-place c =
    let n = c.args.parameter.0 in
    let was : c.get.result ≡ None = c.in_err-place.was in
    let here : or_none (place_of n) ≡ 255 = sym (rw was at (read (goal.at.returns-in_err-place c).After-get)) in
    c.from_residual.ensures ∙ sym (ap found_place (numbered_none (place_of n) (no_place_255 n) here))

pub returns-then-place : goal.returns-then-place
returns-then-place c =
    let n = c.args.parameter.0 in
    let was : c.get.result ≡ Some c.in_ok-place.field-0 = c.in_ok-place.was in
    let here = rw was at (read (goal.at.returns-then-place c).After-get) in
    sym (ap found_place (numbered_none (place_of n) (no_place_255 n) (sym here ∙ c.if-place.true)))

pub returns : goal.returns
returns c =
    let n = c.args.parameter.0 in
    let was : c.get.result ≡ Some c.in_ok-place.field-0 = c.in_ok-place.was in
    let here = rw was at (read (goal.at.returns c).After-get) in
    sym (ap found_place (numbered_some (place_of n) (λ e. c.if-place.false (here ∙ e)) ∙ ap some (sym here)))
