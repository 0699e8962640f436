-- The number of nibbles, their width and the room are tested in this order, and then the bytes are put: each return is a case of `packing`.
use Rattle.std.proofs.Common.{sym, refl, ◌∙◌, arith}
use Rattle.ranges.proofs.Found.{found_some, found_none}
use Rattle.nibbles.proofs.Laws.{packing_odd, packing_wide, packing_short, packing_done}
use Rattle.nibbles.proofs.pack_into.Goals as goal

pub returns-then-sent-eq1 : goal.returns-then-sent-eq1
returns-then-sent-eq1 c = rw (packing_odd c.args.sent.now c.args.out.now c.if-sent-eq1.true) (record { result = refl; lent = refl })

pub returns-in-Some : goal.returns-in-Some
returns-in-Some c =
    let found = found_some _ _ (sym c.in-Some.is ∙ c.first_wide.ensures) in
    rw (packing_wide c.args.sent.now c.args.out.now _ c.if-sent-eq1.false found) (record { result = refl; lent = refl })

pub returns-then-out-sent : goal.returns-then-out-sent
returns-then-out-sent c =
    let nowhere = found_none _ (sym c.in_default.is ∙ c.first_wide.ensures) in
    rw (packing_short c.args.sent.now c.args.out.now c.if-sent-eq1.false nowhere (omega arith)) (record { result = refl; lent = refl })

pub put_packed-requires : goal.put_packed-requires
put_packed-requires c = (found_none _ (sym c.in_default.is ∙ c.first_wide.ensures), c.if-out-sent.false)

pub returns : goal.returns
returns c =
    let nowhere = found_none _ (sym c.in_default.is ∙ c.first_wide.ensures) in
    rw (packing_done c.args.sent.now c.args.out.now c.if-sent-eq1.false nowhere c.if-out-sent.false) (record { result = refl; lent = c.put_packed.ensures })
