-- A report and a reading as the code tells them: plain numbers, and the four bytes that come with an answer.
use Rattle.std.specs.Prelude.{List, [], ◌∷◌, ℕ, ◌+◌, length}
use Rattle.std.proofs.Math.Option.{Option, none, some}
use Rattle.answers.specs.declared.Outcome.{Outcome}
use Rattle.answers.specs.Table.{outcome, outcome_of, four}
use Rattle.answers.specs.Effect.{Effect, told_as}
use Rattle.answers.specs.code.Numbers.{as_number}
use Rattle.streams.specs.Stream as stream
use Rattle.frames.specs.declared.Span.{Span}
use Rattle.frames.specs.declared.Ending.{Ending}
use Rattle.frames.specs.declared.Ending.TheVariants.{Whole, Interrupted, Cut}
use Rattle.messages.specs.Judge.{judge}
use Rattle.judging.specs.code.Heard.{Heard}
use Rattle.judging.specs.code.Judged.{bytes_in}
use Rattle.reading.specs.declared.recording.Reading.{Reading}
use Rattle.reading.specs.declared.walking.Report.{Report}

abbrev pub report_as : ℕ → ℕ → Outcome → ℕ → Report
report_as f e o n = record { start = f; end = e; outcome = o; noise = n }

abbrev pub report_of : stream.Report → Report
report_of r = report_as r.start r.end (outcome_of r.verdict) r.noise

-- Its numbers, the value in two's complement.
abbrev pub numbers_told : Report → List ℕ
numbers_told r = r.start ∷ r.end ∷ r.outcome.answer ∷ r.outcome.detail ∷ as_number r.outcome.value ∷ r.noise ∷ []

-- Where no message is found, start and end are the input's length, and so nothing stands between them.
abbrev pub report_or : ℕ → Option stream.Report → Report
report_or n none = report_as n n (outcome 1 0) 0
report_or n (some r) = report_of r

-- The walk.
abbrev pub walked : List ℕ → ℕ → Report
walked s place = report_or (length s) (stream.walk judge s place)

-- The bytes that come with the answer of the message that is found; none where there is none.
abbrev pub bytes_found : Option stream.Report → List ℕ
bytes_found none = []
bytes_found (some r) = bytes_in r.verdict

-- The walk with them.
abbrev pub walked_with : List ℕ → ℕ → Reading
walked_with s place = record { report = walked s place; bytes = four (bytes_found (stream.walk judge s place)) }

-- How many bytes close a message: a complete one its F7H.
abbrev pub closing : Ending → ℕ
closing Whole = 1
closing Interrupted = 0
closing Cut = 0

-- Where no message is found, no bytes come with the answer.
abbrev pub none_read : ℕ → Reading
none_read n = record { report = report_or n none; bytes = four [] }

-- The end of a message whose F0H stands at place f: behind its F7H, else before the byte that ends it.
abbrev pub end_from : ℕ → Span → ℕ
end_from f s = f + 1 + s.length + closing s.ending

-- A report from what was heard of its message, and a reading.
abbrev pub report_from : ℕ → Heard → Report
report_from f h = report_as f (end_from f h.span) h.judged.outcome h.span.noise

abbrev pub reading_from : ℕ → Heard → Reading
reading_from f h = record { report = report_from f h; bytes = h.judged.bytes }

abbrev pub reading_of : stream.Reading → Reading
reading_of r = record { report = report_as r.start r.end r.outcome r.noise; bytes = four r.bytes }

-- Reading the message whose F0H stands at place f before the bytes t.
abbrev pub read_message : ℕ → List ℕ → List ℕ → Effect Reading
read_message f t lent = told_as reading_of (stream.read_report judge 0 (some (stream.message_at judge f t)) lent)

-- Reading a record.
abbrev pub reads : List ℕ → ℕ → List ℕ → Effect Reading
reads s place lent = told_as reading_of (stream.read judge s place lent)
