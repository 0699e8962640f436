use Rattle.judging.proofs.Spans.{recorded_so}
use Rattle.judging.proofs.record_from.Goals as goal

pub returns : goal.returns
returns c = recorded_so c.args.rest.now c.find_end-span.result c.find_end-span.ensures c.args.buffer.now _ _ c.record_span.ensures
