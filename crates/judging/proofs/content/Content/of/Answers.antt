use Rattle.std.proofs.Common.{arith}
use Rattle.streams.proofs.Noise.{kept_and_dropped}
use Rattle.judging.proofs.Places.{counted_left, counted_size}
use Rattle.judging.proofs.content.Content.of.Goals as goal

pub overflow_sub-count : goal.overflow_sub-count
overflow_sub-count c = omega (arith, c.requires, kept_and_dropped c.args.body.now)

pub invariant_of-result : goal.invariant_of-result
invariant_of-result c = record { counted = counted_size c.args.noise c.args.body.now c.requires }

pub returns : goal.returns
returns c = counted_left c.args.noise c.args.body.now c.requires
