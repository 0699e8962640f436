use Rattle.std.proofs.Common.{◌<◌, take, zero-add, arith, rules}
use Rattle.std.specs.List.{All}
use Rattle.answers.proofs.Lists.{to_end}
use Rattle.frames.proofs.Blocks.{onward_quiet, onward_then, onward_data, onward_noise, span_ends, span_cut}
use Rattle.frames.proofs.find_end.Goals.{in-0-to-127, in-248-to-255}
use Rattle.frames.proofs.find_end.Goals as goal

pub loop-i-init : goal.loop-i-init
loop-i-init c =
    let s = c.args.rest.now in
    let n = c.skip-quiet.result in
    let p = c.skip_noisy-passed.result in
    let low : All (λ b. b < 0x80) (take n s) = λ k d h. let q = c.skip-quiet.ensures.passed k d h in search rules in
    let behind = rw (to_end n s) at c.skip_noisy-passed.ensures in
    rw zero-add at (onward_then s n p.length 0 p.noise (onward_quiet s n c.skip-quiet.ensures.within low) behind)

pub loop-i-preserved : goal.loop-i-preserved
loop-i-preserved c =
    let s = c.args.rest.now in
    let i = c.loop-i.i in
    let k = c.loop-i.noise in
    let h = c.loop-i-test.true in
    elim c.if-rest-i-lt128.branch [
      | in-0-to-127 w ↦ rw w.noise-is (onward_data s i k h (omega arith) c.loop-i.invariant)
      | in-248-to-255 w ↦ rw w.noise-is (onward_noise s i k h (omega arith) c.loop-i.invariant)
    ]

pub returns-in_default : goal.returns-in_default
returns-in_default c =
    span_ends c.args.rest.now c.loop-i.i c.loop-i.noise c.ended_by.result c.loop-i.invariant c.loop-i-test.true
    (omega arith) (omega arith) c.ended_by.ensures

pub returns : goal.returns
returns c = span_cut c.args.rest.now c.loop-i.i c.loop-i.noise c.loop-i.invariant c.loop-i-test.false
