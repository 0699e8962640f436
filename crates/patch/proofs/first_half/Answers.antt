use Rattle.std.proofs.Common.{sym, ap, ◌∙◌, arith}
use Rattle.ranges.specs.code.Found.{found_at}
use Rattle.patch.proofs.Steps.{bus_whole, bus_half, buses_done}
use Rattle.patch.proofs.first_half.Goals as goal

pub returns-then-buses_whole : goal.returns-then-buses_whole
returns-then-buses_whole c = sym (ap found_at (c.buses_whole.ensures c.if-buses_whole.true))

pub returns-then-half_used : goal.returns-then-half_used
returns-then-half_used c =
    sym (ap found_at (c.loop-bus.invariant ∙ bus_half c.args.p.now c.loop-bus.bus (omega arith) (sym c.half_used.ensures ∙ c.if-half_used.true)))

pub loop-bus-preserved : goal.loop-bus-preserved
loop-bus-preserved c =
    c.loop-bus.invariant ∙ bus_whole c.args.p.now c.loop-bus.bus (omega arith) (sym c.half_used.ensures ∙ c.if-half_used.false)

pub returns : goal.returns
returns c = sym (ap found_at (c.loop-bus.invariant ∙ buses_done c.args.p.now c.loop-bus.bus (omega arith)))
