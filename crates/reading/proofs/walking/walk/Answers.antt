-- `walk` finds the first F0H at the place or later, and gives the message there.
use mathlib.Core.Path.{sym, ap, ◌∙◌}
use native.Mathlib.Omega.{arith}
use Rattle.judging.specs.code.Heard.{Heard, told_heard}
use Rattle.reading.specs.declared.recording.Reading.{Reading}
use Rattle.reading.proofs.Found.{none_found, found_there, end_fits}
use Rattle.reading.proofs.walking.walk.Goals as goal

pub returns-then-s-start : goal.returns-then-s-start
returns-then-s-start c =
    let a = c.args in
    c.no_message.ensures ∙ sym (ap (λ (r : Reading). r.report) (none_found a.s.now a.place _ c.find_start_from-start.ensures c.if-s-start.true))

pub report_of-requires : goal.report_of-requires
report_of-requires c =
    let a = c.args in
    let span = ap (λ (h : Heard). h.span) c.judge_from.ensures in
    end_fits a.s.now a.place _ c.find_start_from-start.ensures c.if-s-start.false (omega (arith, c.well_formed)) _ span

pub returns : goal.returns
returns c =
    let a = c.args in
    let e = c.find_start_from-start.ensures in
    let there = found_there a.s.now a.place _ e c.if-s-start.false (told_heard c.judge_from.result) c.judge_from.ensures in
    c.report_of.ensures ∙ ap (λ (r : Reading). r.report) there
