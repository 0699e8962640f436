-- The tests in the order of the rows: the first that holds gives the answer; where none does, one byte is stored.
use mathlib.Core.Path.{◌≡◌, refl, sym, ap, ◌∙◌}
use native.Mathlib.Omega.{arith}
use borrow.Author.Tests.{lt-ltb, le-ltb}
use mir.Facts.{to_z-of_z}
use Rattle.std.proofs.lemmas.Result.{err_from_is_err_and}
use Rattle.ranges.specs.Ranges.{out_from}
use Rattle.fields.specs.Fields.{in_range, value_at}
use Rattle.fields.proofs.Places.{place_refused, place_given}
use Rattle.fields.proofs.Rules.{place_is_found}
use Rattle.edits.specs.Edits.{stored_for}
use Rattle.edits.specs.code.Value.{value_rows}
use Rattle.edits.proofs.Tests.{rows_at, rows_nowhere}
use Rattle.edits.proofs.Remote.change.Goals.{After-in_range}
use Rattle.edits.proofs.Remote.change.Goals as goal

pub returns-in_err-place : goal.returns-in_err-place
returns-in_err-place c =
    let a = c.args.self in
    let p = err_from_is_err_and c.from_residual.result c.from_residual.ensures.1 in
    let nowhere = place_refused _ _ _ c.place_of.ensures c.ok_or.ensures.value _ c.in_err-place.was in
    rw (p.1, p.2, nowhere.1, rows_nowhere a.parameter.0 a.value nowhere.0) (record { told = refl; stores = tt })

pub returns-then-self-gt127 : goal.returns-then-self-gt127
unfolding value_rows
returns-then-self-gt127 c =
    let a = c.args.self in
    let there = place_given _ _ _ c.place_of.ensures c.ok_or.ensures.value _ c.in_ok-place.was in
    rw (rows_at a.parameter.0 a.value _ there) (record { told = simp (lt-ltb _ _ c.if-self-gt127.true); stores = tt })

-- What the range's test answered is what the definition says of the stored byte.
judged : (i : After-in_range) → let a = i.args.self in
    in_range i.in_ok-place.place.0 (stored_for a.parameter.0 a.value) ≡ i.in_range.result
judged i = ap (in_range i.in_ok-place.place.0) (sym i.stored_for-stored.ensures) ∙ sym i.in_range.ensures

pub returns-then-not-in_range : goal.returns-then-not-in_range
unfolding value_rows out_from
returns-then-not-in_range c =
    let a = c.args.self in
    let there = place_given _ _ _ c.place_of.ensures c.ok_or.ensures.value _ c.in_ok-place.was in
    let stored = ap (value_at c.in_ok-place.place.0) c.stored_for-stored.ensures in
    let out = judged (goal.at.returns-then-not-in_range c).After-in_range ∙ c.if-not-in_range.true in
    rw (rows_at a.parameter.0 a.value _ there, to_z-of_z (record { sfits = c.value_at-value.type_inv }), c.value_at-value.ensures, stored)
    (record { told = simp (le-ltb _ _ c.if-self-gt127.false, out); stores = tt })

pub invariant_of-result : goal.invariant_of-result
invariant_of-result c =
    let there = place_given _ _ _ c.place_of.ensures c.ok_or.ensures.value _ c.in_ok-place.was in
    let found = place_is_found c.args.self.parameter.0 c.in_ok-place.place.0 there in
    record { within = omega (arith, found.high) }

pub returns : goal.returns
unfolding value_rows out_from
returns c =
    let a = c.args.self in
    let there = place_given _ _ _ c.place_of.ensures c.ok_or.ensures.value _ c.in_ok-place.was in
    let inside = judged (goal.at.returns c).After-in_range ∙ c.if-not-in_range.false in
    record {
      told = rw (rows_at a.parameter.0 a.value _ there) (simp (le-ltb _ _ c.if-self-gt127.false, inside));
      stores = λ p. rw (there, c.stored_for-stored.ensures) refl;
    }
