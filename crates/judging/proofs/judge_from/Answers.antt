use Rattle.judging.proofs.Spans.{heard_so}
use Rattle.judging.proofs.judge_from.Goals as goal

pub returns : goal.returns
returns c = heard_so c.args.rest.now c.find_end-span.result c.find_end-span.ensures _ c.judge_span.ensures
