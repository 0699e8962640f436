-- Document 02 (iv), 'Reading straight from the cable': a reader's record, held by the desk program, and what each call tells and leaves in it.
use Rattle.std.specs.Prelude.{◌≡◌, Bool, true, false, cond, List, [], ℕ, ◌+◌, min, ltb, length, take, replicate}
use Rattle.std.proofs.Math.Option.{Option, none, some}
use Rattle.answers.specs.Table.{refused, outcome, four}
use Rattle.answers.specs.Effect.{at_start}
use Rattle.streams.specs.Stream as stream
use Rattle.streams.specs.Stream.{packed_in}
use Rattle.streams.specs.Feed.{Taken, taken}
use Rattle.streams.specs.code.Scan.{State, outside, inside}
use Rattle.messages.specs.Judge.{judge}
use Rattle.judging.specs.code.Judged.{bytes_in}
use Rattle.reading.specs.code.Told.{report_as, report_of}
use Rattle.cable.specs.declared.Cable.{Cable}
use Rattle.cable.specs.declared.Fed.{Fed}
use Rattle.cable.specs.declared.Step.{Step}

-- So many bytes are taken at most.
abbrev pub limit : ℕ
limit = 4294967295

-- 'It has room for the longest message, 351 bytes', which begins as zeros.
abbrev pub room : ℕ
room = 351

unfoldable pub cleared : List ℕ
cleared = replicate room 0

-- The message that is open, by a record. (A call that is done leaves no more noise there than bytes taken; of a record that has more, so many count.)
abbrev pub held_by : Cable → State
held_by c = cond c.inside (inside c.start (take c.count c.bytes) (min c.noise c.taken)) outside

-- 'After a dump's report it gives the packed bytes until the next call': the first of the record's bytes, where no message is open.
abbrev pub packed_by : Cable → List ℕ
packed_by c = cond c.inside [] (take c.count c.bytes)

-- A record with no message open, and with the packed bytes p.
abbrev pub resting : List ℕ → ℕ → Bool → Cable
resting p n over = record { bytes = at_start p cleared; inside = false; over = over; count = length p; start = 0; noise = 0; taken = n }

-- A record with a message open: its bytes behind F0H, real time dropped, as many as there is room for, stand over those that stood there. 'Longer ones
-- are followed to their end without being stored': of them only the first are there, and that is enough, since with more than 349 behind F0H no message has
-- its kind's length, and then only maker, device and opcode matter.
abbrev pub following : List ℕ → ℕ → List ℕ → ℕ → ℕ → Cable
following old f c k n =
    let b = take room c in
    record { bytes = at_start b old; inside = true; over = false; count = length b; start = f; noise = k; taken = n }

abbrev pub record_of : List ℕ → ℕ → State → List ℕ → Cable
record_of old n outside p = resting p n false
record_of old n (inside f c k) p = following old f c k n

-- A fresh start.
abbrev pub fresh_record : Cable
fresh_record = resting [] 0 false

-- A call with no report: a place, an answer, and how many bytes it took.
abbrev pub no_report : ℕ → ℕ → ℕ → Fed
no_report place answer n =
    record { reading = record { report = report_as place place (outcome answer 0) 0; bytes = four [] }; taken = n; ended = false }

-- 'It says how many it took, with the report or that none has ended.' With the report come the bytes that come with its answer.
abbrev pub told : ℕ → Option stream.Report → Fed
told n none = no_report 0 0 n
told n (some r) = record { reading = record { report = report_of r; bytes = four (bytes_in r.verdict) }; taken = n; ended = true }

-- The packed bytes of the report that a call gives.
abbrev pub packed_of : Option stream.Report → List ℕ
packed_of none = []
packed_of (some r) = packed_in r.verdict

-- What a call leaves and tells that takes t from place p on.
abbrev pub step_by : List ℕ → ℕ → Taken → Step
step_by old p t = record { state = record_of old (p + t.count) t.state (packed_of t.ended); fed = told t.count t.ended }

-- The message that is open goes on over its own bytes, a new one begins over zeros.
abbrev pub laid_over : Cable → List ℕ
laid_over c = cond c.inside c.bytes cleared

-- 'Taking and changing nothing.'
abbrev pub refusing : Cable → ℕ → ℕ → Step
refusing c place answer = record { state = c; fed = no_report place answer 0 }

-- A feed before the end and within the limit.
abbrev pub goes : Cable → List ℕ → Step
goes c s = step_by (laid_over c) c.taken (taken judge c.taken (held_by c) s)

-- A feed. 'Feeding or declaring again after the end changes nothing and gives 1; before it, 21 for a feed whose length and the bytes taken so far add
-- up to more than 4,294,967,295, taking and changing nothing, start and end 0.'
unfoldable pub feeding : Cable → List ℕ → Step
feeding c s =
    cond c.over (refusing c c.taken 1)
    (cond (ltb limit (c.taken + length s)) (refusing c 0 21) (goes c s))

-- 'A message still open gets answer 2 only when the desk declares the end; with none open the end gives 1.'
abbrev pub last_told : ℕ → State → Fed
last_told p outside = no_report p 1 0
last_told p (inside f c k) = told 0 (some (stream.report f p (refused (outcome 2 0)) k))

-- The declared end.
unfoldable pub ending : Cable → Step
ending c =
    cond c.over (refusing c c.taken 1)
    (record { state = resting [] c.taken true; fed = last_told c.taken (held_by c) })

-- What a call leaves in the record that it was lent, and tells.
pub record Leaves (s : Step) (after : Cable) (r : Fed) : Type 0 where
  pub state : after ≡ s.state
  pub fed : r ≡ s.fed
