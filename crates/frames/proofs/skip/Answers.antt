use Rattle.std.proofs.Common.{◌/◌, true, length, refl}
use Rattle.frames.proofs.Blocks.{block_more}
use Rattle.frames.proofs.skip.Goals as goal

pub loop-i-preserved : goal.loop-i-preserved
loop-i-preserved g c =
    let s = c.args.bytes.now in
    block_more (λ b. g.F.Fn.post c.args.passes (b, tt) true) 16 (length s / 16) c.loop-i.i s c.as_chunks.result.0.now c.as_chunks.ensures.front
    c.loop-i-test.true c.loop-i.invariant (c.if-not-all_pass.ensures refl)
