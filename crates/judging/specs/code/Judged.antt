-- A verdict as the code answers it, and what the test of a dump's data leaves.
use Rattle.std.specs.Prelude.{◌≡◌, List, [], ℕ, Result, Ok, Err}
use Rattle.answers.specs.declared.Outcome.{Outcome}
use Rattle.answers.specs.Table.{Row, Verdict, done, refused, first, outcome, outcome_of, four}
use Rattle.answers.specs.Effect.{Effect, tested, told_as}
use Rattle.streams.specs.Stream.{Reading, read_into}
use Rattle.nibbles.specs.Nibbles.{pack}
use Rattle.answers.specs.declared.Refusal.{Refusal}
use Rattle.answers.specs.Refusals.{outcome_by}
use Rattle.judging.specs.declared.Accepted.{Accepted}
use Rattle.judging.specs.code.Content.{sent_in, sum_in}
use Rattle.messages.specs.declared.kinds.Kind.{Kind}
use Rattle.messages.specs.declared.kinds.Packed.{Packed}
use Rattle.messages.specs.Kinds.{size_of}
use Rattle.messages.specs.Judge.{data_rows, sent_rows, kind_table, record_of}

abbrev pub bytes_in : Verdict → List ℕ
bytes_in (done op b p) = b
bytes_in (refused o) = []

-- An outcome, and the bytes that come with it as four.
pub record Judged : Type 0 where
  pub outcome : Outcome
  pub bytes : List ℕ

-- Its outcome, and the bytes that come with it, zero behind the last.
abbrev pub judged : Verdict → Judged
judged v = record { outcome = outcome_of v; bytes = four (bytes_in v) }

abbrev pub judged_as : ℕ → List ℕ → Judged
judged_as opcode b = record { outcome = outcome 0 opcode; bytes = b }

abbrev pub refused_by : Outcome → Judged
refused_by o = judged (refused o)

-- What the code answers, as it is told: accepted, the detail is the opcode.
abbrev pub told_judged : Result Accepted Refusal → Judged
told_judged (Ok a) = judged_as a.opcode a.bytes
told_judged (Err r) = refused_by (outcome_by r)

-- What the test of a dump's data d and of the sum s behind them gave: its outcome, and when done the packed bytes.
pub record Checked (d : List ℕ) (s : ℕ) (after : List ℕ) (r : Outcome) : Type 0 where
  pub outcome : r ≡ tested (data_rows d s)
  pub packed : r.answer ≡ 0 → after ≡ pack d

-- The same from the content.
abbrev pub CheckedIn : ℕ → List ℕ → List ℕ → Outcome → Type 0
CheckedIn size c after r = Checked (sent_in size c) (sum_in size c) after r

-- What is tested of a dump behind its number, from the content.
abbrev pub sent_rows_in : Packed → List ℕ → List Row
sent_rows_in q c = sent_rows q (sent_in (size_of q) c) (sum_in (size_of q) c)

-- What a message comes to whose maker and device have passed, by its kind.
unfoldable pub kind_verdict : Kind → List ℕ → Verdict
kind_verdict k m = first (kind_table k m) (record_of k m)

-- A reading without its places and noise.
abbrev pub told : Reading → Judged
told r = record { outcome = r.outcome; bytes = four r.bytes }

-- A message that comes to v, its packed bytes at the start of a lent buffer: as reading a record, but for its places and noise.
abbrev pub recorded_as : Verdict → List ℕ → Effect Judged
recorded_as v lent = told_as told (read_into 0 0 v 0 lent)
