-- By how the message ends: cut or interrupted, or judged.
use Rattle.judging.proofs.Spans.{span_taken, span_noise, verdict_cut, verdict_interrupted, verdict_judged}
use Rattle.judging.proofs.judge_span.Goals as goal

pub slice_bounds-of-end : goal.slice_bounds-of-end
slice_bounds-of-end c = span_taken c.args.rest.now c.args.span c.requires

pub of-requires : goal.of-requires
of-requires c = span_noise c.args.rest.now c.args.span c.requires

pub returns-in-Whole : goal.returns-in-Whole
returns-in-Whole c = rw (verdict_judged c.args.rest.now c.args.span c.requires c.in-Whole.is, ← c.of.ensures) c.judge_content.ensures

pub returns-in-Interrupted : goal.returns-in-Interrupted
returns-in-Interrupted c = rw (verdict_interrupted c.args.rest.now c.args.span c.requires c.in-Interrupted.is)

pub returns-in-Cut : goal.returns-in-Cut
returns-in-Cut c = rw (verdict_cut c.args.rest.now c.args.span c.requires c.in-Cut.is)
