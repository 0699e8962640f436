-- `read` finds the first F0H at the place or later, and reads the message there.
use mathlib.Core.Path.{refl, ap}
use Prim.Native.Nat.{◌+◌, ◌-◌}
use native.Mathlib.Omega.{arith}
use native.Mathlib.Numerals.{add-one}
use lib.ListN.{length, take, drop}
use Rattle.answers.proofs.Lists.{to_end}
use Rattle.streams.specs.Stream.{read}
use Rattle.frames.proofs.Found.{walk_none, walk_found}
use Rattle.messages.specs.Judge.{judge}
use Rattle.judging.specs.code.Heard.{Heard, told_heard}
use Rattle.reading.proofs.Spans.{read_from}
use Rattle.reading.proofs.Found.{end_fits}
use Rattle.reading.proofs.recording.read.Goals as goal

pub returns-then-s-start : goal.returns-then-s-start
unfolding read
returns-then-s-start c =
    let a = c.args in
    rw (walk_none judge a.s.now a.place (rw c.find_start_from-start.ensures at c.if-s-start.true))
    (record { result = rw c.no_reading.ensures; lent = refl })

pub reading_of-requires : goal.reading_of-requires
reading_of-requires c =
    let span = ap (λ (h : Heard). h.span) c.record_from.ensures.result in
    end_fits c.args.s.now c.args.place _ c.find_start_from-start.ensures c.if-s-start.false (omega (arith, c.well_formed)) _ span

pub returns : goal.returns
unfolding read
returns c =
    let a = c.args in
    let s = a.s.now in
    let i = c.find_start_from-start.result in
    let e = c.find_start_from-start.ensures in
    let found = rw (← e, ← (add-one i)) at (walk_found judge s a.place (rw e at c.if-s-start.false)) in
    let part = take (length s - (i + 1)) (drop (i + 1) s) in
    let told = read_from part i a.buffer.now (told_heard c.record_from.result) c.record_from.new.buffer c.record_from.ensures in
    rw (found, c.reading_of.ensures) (rw (to_end (i + 1) s) at told)
