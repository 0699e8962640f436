use Rattle.std.proofs.Common.{sym, ◌∙◌, arith, to_z-of_z}
use Rattle.ranges.proofs.Steps.{byte_in, byte_out, bytes_done}
use Rattle.ranges.proofs.first_out.Goals as goal

pub returns-then-not-in_row : goal.returns-then-not-in_row
returns-then-not-in_row c =
    let a = c.args in
    let out = sym c.in_row.ensures ∙ c.if-not-in_row.true in
    let here = c.loop-k.invariant ∙ byte_out a.table.now a.bytes.now c.loop-k.k (omega arith) out in
    rw (here, to_z-of_z (record { sfits = c.value_in.type_inv }), c.value_in.ensures)

pub loop-k-preserved : goal.loop-k-preserved
loop-k-preserved c =
    let a = c.args in
    let here = sym c.in_row.ensures ∙ c.if-not-in_row.false in
    c.loop-k.invariant ∙ byte_in a.table.now a.bytes.now c.loop-k.k (omega arith) here

pub returns : goal.returns
returns c = rw (c.loop-k.invariant, bytes_done c.args.table.now c.args.bytes.now c.loop-k.k (omega arith))
