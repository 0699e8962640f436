use Rattle.std.proofs.Common.{sym, ◌∙◌, arith, to_z-of_z}
use Rattle.fields.specs.Fields.{fields}
use Rattle.ranges.proofs.Steps.{byte_in, byte_out, bytes_done}
use Rattle.patch.proofs.first_out.Goals as goal

pub returns-then-all_in_range : goal.returns-then-all_in_range
returns-then-all_in_range c = rw (c.all_in_range.ensures c.if-all_in_range.true)

pub returns-then-not-in_range : goal.returns-then-not-in_range
returns-then-not-in_range c =
    let out = sym c.in_range.ensures ∙ c.if-not-in_range.true in
    let here = c.loop-k.invariant ∙ byte_out fields c.args.p.now c.loop-k.k (omega arith) out in
    rw (here, to_z-of_z (record { sfits = c.value_at.type_inv }), c.value_at.ensures)

pub loop-k-preserved : goal.loop-k-preserved
loop-k-preserved c =
    let inside = sym c.in_range.ensures ∙ c.if-not-in_range.false in
    c.loop-k.invariant ∙ byte_in fields c.args.p.now c.loop-k.k (omega arith) inside

pub returns : goal.returns
returns c = rw (c.loop-k.invariant, bytes_done fields c.args.p.now c.loop-k.k (omega arith))
