-- Document 01, 'Finding a message': the walk, the reports of a stream, reading a record.
-- What a complete message comes to, its real-time bytes dropped, is the parameter `judge`: the crate messages defines it.
use Rattle.std.specs.Prelude.{cond, List, [], ◌∷◌, ◌++◌, ℕ, zero, suc, ◌+◌, ◌-◌, eqb, leb, length, take, drop}
use Rattle.std.proofs.Math.Option.{Option, none, some}
use Rattle.answers.specs.declared.Outcome.{Outcome}
use Rattle.answers.specs.Table.{Verdict, done, refused, outcome}
use Rattle.answers.specs.Effect.{Effect}
use Rattle.streams.specs.Bytes.{body, without_real_time, real_time_in, framed}

-- The bytes of a stream from one place up to another.
abbrev pub between : List ℕ → ℕ → ℕ → List ℕ
between s start end = take (end - start) (drop start s)

-- A report: where a message starts and ends, what it comes to, and how noisy the line was.
pub record Report : Type 0 where
  pub start : ℕ
  pub end : ℕ
  pub verdict : Verdict
  pub noise : ℕ

abbrev pub report : ℕ → ℕ → Verdict → ℕ → Report
report f e v n = record { start = f; end = e; verdict = v; noise = n }

-- What reading a record tells: where the message starts and ends, its outcome, how noisy the line was, and the bytes that come with the answer.
pub record Reading : Type 0 where
  pub start : ℕ
  pub end : ℕ
  pub outcome : Outcome
  pub noise : ℕ
  pub bytes : List ℕ

abbrev pub reading : ℕ → ℕ → Outcome → ℕ → List ℕ → Reading
reading f e o n b = record { start = f; end = e; outcome = o; noise = n; bytes = b }

-- Document 02 (viii): each report shall also hold how many bytes F8H..FFH stood between its start and its end.
-- The report of a message whose bytes from its start on, to the end of the input, are m.
abbrev pub report_on : List ℕ → ℕ → ℕ → Verdict → Report
report_on m f e v = report f e v (real_time_in (take (e - f) m))

-- A dump's packed bytes; none of a refused message.
abbrev pub packed_in : Verdict → List ℕ
packed_in (done o b p) = p
packed_in (refused o) = []

-- A dump's packed bytes go to the buffer's start, if they fit (else 13); every other byte is kept.
abbrev pub read_into : ℕ → ℕ → Verdict → ℕ → List ℕ → Effect Reading
read_into f e (done op bytes packed) n lent =
    cond (leb (length packed) (length lent))
    (record { result = reading f e (outcome 0 op) n bytes; lent = packed ++ drop (length packed) lent })
    (record { result = reading f e (outcome 13 0) n []; lent = lent })
read_into f e (refused o) n lent = record { result = reading f e o n []; lent = lent }

module _ (judge : List ℕ → Verdict) where
  -- The message whose F0H stands at place f, the first of the bytes m, with the bytes b behind it up to place e: F7H there closes it, another byte
  -- interrupts it, none cuts it.
  abbrev pub closed_by : List ℕ → ℕ → ℕ → List ℕ → List ℕ → Report
  closed_by m f e b [] = report_on m f e (refused (outcome 2 0))
  closed_by m f e b (x ∷ r) =
      cond (eqb x 0xF7) (report_on m f (suc e) (judge (framed (without_real_time b)))) (report_on m f e (refused (outcome 3 0)))

  -- The message whose F0H stands at place f, before the bytes t.
  unfoldable pub message_at : ℕ → List ℕ → Report
  message_at f t = closed_by (0xF0 ∷ t) f (suc f + length (body t)) (body t) (drop (length (body t)) t)

  -- The first message among bytes the first of which stands at place p.
  unfoldable pub first_from : ℕ → List ℕ → Option Report
  first_from p [] = none
  first_from p (b ∷ s) = cond (eqb b 0xF0) (some (message_at p s)) (first_from (suc p) s)

  -- The walk: the first message that starts at place p or later.
  unfoldable pub walk : List ℕ → ℕ → Option Report
  walk s p = first_from p (drop p s)

  -- The walk from p, each next call from the last end, until it finds none. Each message has a byte, so n = the input's length is enough.
  abbrev pub reports_from : ℕ → List ℕ → ℕ → List Report
  reports_from zero s p = []
  reports_from (suc n) s p = elim (walk s p) [ none ↦ [] | some r ↦ r ∷ reports_from n s r.end ]

  -- The reports of a stream.
  unfoldable pub reports : List ℕ → List Report
  reports s = reports_from (length s) s 0

  -- Where no message is found, start and end are the input's length, and so nothing stands between them.
  abbrev pub read_report : ℕ → Option Report → List ℕ → Effect Reading
  read_report n none lent = record { result = reading n n (outcome 1 0) 0 []; lent = lent }
  read_report n (some r) lent = read_into r.start r.end r.verdict r.noise lent

  -- Reading a record from a place into a lent buffer.
  unfoldable pub read : List ℕ → ℕ → List ℕ → Effect Reading
  read s p lent = read_report (length s) (walk s p) lent
