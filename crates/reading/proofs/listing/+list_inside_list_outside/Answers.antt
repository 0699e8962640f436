-- The two states list the reports of the scan. From outside the scan goes on at the next F0H; from inside it gives the message, then goes on
-- behind the byte that ended it. The room taken by a report is handed on with the rest.
use mathlib.Core.Path.{◌≡◌, refl, ap, ◌∙◌}
use mathlib.Core.List.{List, [], ◌++◌}
use Prim.Native.Nat.{ℕ, suc, ◌+◌, ◌<◌, ◌≤◌}
use native.Mathlib.Omega.{arith}
use lib.ListN.{length, drop}
use borrow.Author.Rules.{rules}
use mir.Syntax.{w16}
use mir.Val.{SFits}
use Rattle.answers.proofs.Lists.{to_end}
use Rattle.streams.specs.Bytes.{body}
use Rattle.streams.specs.Stream.{Report, message_at}
use Rattle.streams.specs.code.Scan.{outside, inside}
use Rattle.frames.proofs.Handing.{outside_none, outside_found, inside_again, inside_left, inside_cut}
use Rattle.messages.specs.Judge.{judge}
use Rattle.judging.specs.code.Heard.{Heard}
use Rattle.reading.specs.code.Told.{end_from, report_of, report_from, numbers_told}
use Rattle.reading.specs.code.Rooms.{numbers_of, width, ReadsBack}
use Rattle.reading.proofs.Spans.{span_length, told_report_from, end_within}
use Rattle.reading.proofs.Rooms.{lists_full, lists_none, lists_one, PartHolds, part_fits, lists_on, value_told}
use Rattle.reading.proofs.listing.+list_inside_list_outside.Goals.{list_inside-After-put_report}
use Rattle.reading.proofs.listing.+list_inside_list_outside.Goals as goal

pub list_inside-returns-then-room-lt-WIDTH : goal.list_inside-returns-then-room-lt-WIDTH
list_inside-returns-then-room-lt-WIDTH t c = lists_full _ c.args.room.now c.if-room-lt-WIDTH.true

pub list_inside-report_of-requires : goal.list_inside-report_of-requires
list_inside-report_of-requires t c =
    let a = c.args in
    let end = ap (λ (h : Heard). end_from a.start h.span) c.judge_from-heard.ensures in
    omega (arith, end, end_within a.rest.now a.start, c.requires)

-- Where the report is in the room: the message's start, the bytes behind its F0H, how many of them its body has, the room as lent and
-- with the report in it.
module _ {t : ℕ} (c : list_inside-After-put_report t) where
  abbrev start : ℕ
  start = c.args.start

  abbrev rest : List ℕ
  rest = c.args.rest.now

  abbrev counted : ℕ
  counted = c.judge_from-heard.result.span.length

  abbrev room : List ℕ
  room = c.args.room.now

  abbrev filled : List ℕ
  filled = c.put_report.new.room

  fits : width ≤ length room
  fits = c.if-room-lt-WIDTH.false

  index : counted ≡ length (body rest)
  index = ap (λ (h : Heard). h.span.length) c.judge_from-heard.ensures ∙ span_length rest

  its_report : c.report_of.result ≡ report_of (message_at judge start rest)
  its_report = c.report_of.ensures ∙ ap (report_from start) c.judge_from-heard.ensures ∙ told_report_from rest start

  -- The report stands at the start of the room.
  first : filled ≡ numbers_of (message_at judge start rest) ++ drop width room
  first = c.put_report.ensures ∙ ap (λ (l : List ℕ). l ++ drop width room) (ap numbers_told its_report)

  tells : ReadsBack (message_at judge start rest)
  tells =
      let r = c.report_of.result in
      let small : SFits w16 r.outcome.value = search rules in
      value_told (message_at judge start rest) r its_report small

  -- The reports listed behind it are in the room too.
  in_room : (rs : List Report) (new : List ℕ) (k : ℕ) → PartHolds filled rs new k → 1 + k ≤ length room
  in_room rs new k l = omega (arith, part_fits filled rs l, c.put_report.auto.room, fits)

pub list_inside-returns-then-rest-n : goal.list_inside-returns-then-rest-n
list_inside-returns-then-rest-n t c =
    let p = (goal.at.list_inside-returns-then-rest-n t c).After-put_report in
    rw (inside_cut judge (start p) (rest p) (omega (arith, index p, c.if-rest-n.true)))
    (lists_one (message_at judge (start p) (rest p)) (room p) (filled p) (fits p) (first p) (tells p))

pub list_inside-returns-then-rest-n-2 : goal.list_inside-returns-then-rest-n-2
list_inside-returns-then-rest-n-2 t c =
    let p = (goal.at.list_inside-returns-then-rest-n-2 t c).After-put_report in
    let there : length (body (rest p)) < length (rest p) = omega (arith, index p, c.if-rest-n.false) in
    let again = inside_again judge (start p) (rest p) there (rw (index p) at c.if-rest-n-2.true) in
    lists_on (rest p) (start p) (room p) (filled p) (fits p) (first p) (tells p) (counted p) (index p) (λ q. inside q [] 0) _ refl again
    c.list_inside.new.room c.list_inside.result c.list_inside.ensures

pub list_inside-returns : goal.list_inside-returns
list_inside-returns t c =
    let p = (goal.at.list_inside-returns t c).After-put_report in
    let there : length (body (rest p)) < length (rest p) = omega (arith, index p, c.if-rest-n.false) in
    let left = inside_left judge (start p) (rest p) there (λ z. c.if-rest-n-2.false (rw (index p) z)) in
    let next : start p + 1 + counted p + 1 ≡ suc (start p + 1 + counted p) = omega arith in
    lists_on (rest p) (start p) (room p) (filled p) (fits p) (first p) (tells p) (counted p) (index p) (λ q. outside) _ next left
    c.list_outside.new.room c.list_outside.result c.list_outside.ensures

pub list_outside-returns-then-room-lt-WIDTH : goal.list_outside-returns-then-room-lt-WIDTH
list_outside-returns-then-room-lt-WIDTH t c = lists_full _ c.args.room.now c.if-room-lt-WIDTH.true

pub list_outside-returns-then-rest-i : goal.list_outside-returns-then-rest-i
list_outside-returns-then-rest-i t c =
    let a = c.args in
    rw (outside_none judge a.rest.now a.place (rw c.find_start-i.ensures at c.if-rest-i.true)) (lists_none a.room.now)

pub list_outside-returns : goal.list_outside-returns
list_outside-returns t c =
    let a = c.args in
    let s = a.rest.now in
    let e = c.find_start-i.ensures in
    let i = c.find_start-i.result in
    rw (outside_found judge s a.place (rw e at c.if-rest-i.false)) (rw (to_end (i + 1) s, e) at c.list_inside.ensures)
