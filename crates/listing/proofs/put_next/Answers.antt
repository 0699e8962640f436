-- What the walk finds: no message, or the next.
use native.Mathlib.Omega.{arith}
use Rattle.listing.specs.Listing.{line, total}
use Rattle.listing.specs.code.Pieces.{calls_left}
use Rattle.listing.proofs.Lines.{line_most, total_most}
use Rattle.listing.proofs.Steps.{none_left, next_left}
use Rattle.listing.proofs.put_next.Goals as goal

pub returns-then-s-report : goal.returns-then-s-report
unfolding calls_left
returns-then-s-report c =
    let messages = c.args.messages in
    let text = none_left c.args.s.now c.args.place messages c.requires (rw c.walk-report.ensures at c.if-s-report.true) in
    record { added = total messages; text = text; few = total_most messages; gains = c.put_total.ensures; fewer = omega arith }

pub overflow_add-result : goal.overflow_add-result
overflow_add-result c = let w = c.requires in omega (arith, w.0, w.1)

pub returns : goal.returns
unfolding calls_left
returns c =
    let a = c.args in
    let r = c.walk-report.result in
    let found = next_left a.s.now a.place a.messages c.requires (rw c.walk-report.ensures at c.if-s-report.false) in
    let next = rw (← c.walk-report.ensures) at found in
    record {
      added = line r.start r.end r.outcome r.noise;
      text = next.text;
      few = line_most r.start r.end r.outcome r.noise;
      gains = c.put_report.ensures;
      fewer = omega (arith, next.further, next.inside);
    }
