use Rattle.std.proofs.Common.{get_or, [], refl, arith}
use Rattle.std.specs.List.{All}
use Rattle.frames.specs.code.Blocks.{Goes}
use Rattle.frames.proofs.Blocks.{onward_block}
use Rattle.frames.proofs.skip_noisy.Goals as goal

pub loop-i-preserved : goal.loop-i-preserved
loop-i-preserved c =
    let s = c.args.rest.now in
    let blocks = c.as_chunks.result.0.now in
    let goes : All Goes (get_or blocks c.loop-i.i []) = λ k d h. c.if-not-all_pass.ensures refl k d h refl in
    onward_block 32 c.loop-i.i s blocks c.loop-i.noise c.from-noise.result c.as_chunks.ensures.front c.loop-i-test.true c.loop-i.invariant goes
    (omega (arith, c.from-noise.ensures, c.noise_in.ensures goes))
