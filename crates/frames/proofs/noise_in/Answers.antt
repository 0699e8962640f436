use Rattle.std.proofs.Common.{◌<◌, get_or, sym, arith, rules}
use Rattle.streams.proofs.Noise.{noise_none}
use Rattle.frames.specs.code.Blocks.{Goes}
use Rattle.frames.proofs.Blocks.{all_before, noise_next}
use Rattle.frames.proofs.noise_in.Goals as goal

pub loop-b-init : goal.loop-b-init
loop-b-init c = (omega arith, λ a. sym noise_none)

pub loop-b-preserved : goal.loop-b-preserved
loop-b-preserved c =
    let s = c.args.block.now in
    let i = c.loop-b.b-index in
    let fits : get_or s i 0 < 256 = search rules in
    let before = c.loop-b.invariant in
    (omega (arith, before.0), λ a. omega (arith, before.1 (all_before Goes s i a), noise_next s i (omega arith) fits a))
