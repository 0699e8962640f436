-- Where the number has a place, both bounds of its field are told as its values.
use Rattle.std.proofs.Common.{to_z-of_z}
use Rattle.std.proofs.lemmas.Result.{err_from_is_err_and}
use Rattle.fields.specs.Parameters.{ranging}
use Rattle.fields.proofs.Places.{place_refused, place_given}
use Rattle.fields.proofs.range_of.Goals as goal

pub returns-in_err-place : goal.returns-in_err-place
unfolding ranging
returns-in_err-place c =
    let p = err_from_is_err_and c.from_residual.result c.from_residual.ensures.1 in
    let nowhere = place_refused _ _ _ c.place_of.ensures c.ok_or.ensures.value _ c.in_err-place.was in
    rw (p.1, p.2, nowhere.1, nowhere.0)

pub returns : goal.returns
unfolding ranging
returns c =
    let there = place_given _ _ _ c.place_of.ensures c.ok_or.ensures.value _ c.in_ok-place.was in
    rw (
      there,
      to_z-of_z (record { sfits = c.value_at.type_inv }),
      to_z-of_z (record { sfits = c.value_at-2.type_inv }),
      c.value_at.ensures,
      c.value_at-2.ensures,
      c.row_of-least.ensures,
    )
