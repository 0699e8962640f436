-- Where nothing is left, nothing is added.
use native.Mathlib.Omega.{arith}
use Rattle.listing.specs.code.Pieces.{left_of}
use Rattle.listing.proofs.Steps.{left_past, left_outside, adds_none}
use Rattle.listing.proofs.put_some.Goals as goal

pub returns-in_default : goal.returns-in_default
returns-in_default c =
    let f = c.args in
    let from = c.in-From in
    adds_none f.s.now f.left f.text.now (rw from.is (left_outside f.s.now from.place from.messages (omega arith) (omega arith)))

pub returns-in_default-2 : goal.returns-in_default-2
returns-in_default-2 c =
    let f = c.args in
    let from = c.in-From in
    adds_none f.s.now f.left f.text.now (rw from.is (left_past f.s.now from.place from.messages (omega arith)))

pub returns-in_default-3 : goal.returns-in_default-3
unfolding left_of
returns-in_default-3 c = let f = c.args in adds_none f.s.now f.left f.text.now (rw (c.in_default.is, left_of))
