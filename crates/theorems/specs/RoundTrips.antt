-- Demand 2: what is written and read back is the same, what is accepted and written again is the same less its real-time bytes, and an edit
-- changes its own field alone.
use Rattle.std.specs.Prelude.{◌≡◌, List, [], ◌∷◌, ◌++◌, ℕ, zero, suc, ◌+◌, ◌*◌, ◌/◌, ◌≤◌, length, take, drop}
use Rattle.std.proofs.Math.Option.{some}
use Rattle.answers.specs.declared.Outcome.{Outcome}
use Rattle.answers.specs.Lists.{All}
use Rattle.answers.specs.Table.{Verdict, done, outcome, answer_of}
use Rattle.answers.specs.Effect.{Effect}
use Rattle.streams.specs.Bytes.{without_real_time}
use Rattle.streams.specs.Stream.{Report, report, Reading, reading, between, walk, reports, read}
use Rattle.fields.specs.Fields.{size}
use Rattle.names.specs.Names.{naming, showing}
use Rattle.edits.specs.Edits.{applying, applying_bus}
use Rattle.edits.specs.promises.Done.{EditDone, BusDone}
use Rattle.messages.specs.declared.kinds.Kind.{Kind}
use Rattle.messages.specs.declared.kinds.Kind.TheVariants.{Dump as of_dump}
use Rattle.messages.specs.Kinds.{single_patch, kinds, opcode_of, Filed}
use Rattle.messages.specs.Judge.{judge}
use Rattle.messages.specs.Layout.{message, record_for}
use Rattle.messages.specs.promises.Given.{Given, BytesIn}
use Rattle.writing.specs.Writing.{writing, writing_bank}
use Rattle.theorems.specs.Damage.{stream, reports_before, reports_after}

-- A kind of the list, and what its writer can be given: the bytes b that come with the answer, and a dump's packed bytes p.
abbrev pub Ours : Kind → List ℕ → List ℕ → Type 0
Ours k b p = Filed k × Given k b p

-- The bytes m at an output's start, the bytes behind them kept.
abbrev pub putting : List ℕ → List ℕ → Effect Outcome
putting m out = record { result = outcome 0 (length m); lent = m ++ drop (length m) out }

-- The bytes that the writer put at the start of an output: as many as its detail says.
abbrev pub sent : Kind → List ℕ → List ℕ → List ℕ → List ℕ
sent k b p out = take (writing k b p out).result.detail (writing k b p out).lent

-- The report of the message from a place on: a writer puts no real time into it.
abbrev pub report_for : Kind → List ℕ → List ℕ → ℕ → Report
report_for k b p place = report place (place + length (message k b p)) (record_for k b p) 0

-- What the writer put into out, with any bytes before and behind it, is found whole and read back the same.
pub record ReadBack (k : Kind) (b p out before behind : List ℕ) : Type 0 where
  pub its_message : sent k b p out ≡ message k b p
  -- the walk from its place finds it
  pub found : walk judge (stream before (sent k b p out) behind) (length before) ≡ some (report_for k b p (length before))
  -- it is one report of the stream: the others start before its F0H or behind its F7H
  pub reported : reports judge (stream before (sent k b p out) behind)
      ≡ reports_before before (sent k b p out) behind ++ report_for k b p (length before) ∷ reports_after before (sent k b p out) behind
  -- reading into a lent buffer with room gives its record; the packed bytes stand at the buffer's start, the bytes behind them are kept
  pub same : (lent : List ℕ) → length p ≤ length lent
      → read judge (stream before (sent k b p out) behind) (length before) lent
      ≡ record {
        result = reading (length before) (length before + length (message k b p)) (outcome 0 (opcode_of k)) 0 b;
        lent = p ++ drop (length p) lent;
      }

-- What a writer wrote, in any stream, is read back the same.
abbrev pub WrittenReadBack : Type 0
WrittenReadBack = (k : Kind) (b p out : List ℕ) → Ours k b p → BytesIn k p → (writing k b p out).result.answer ≡ 0
    → (before behind : List ℕ) → ReadBack k b p out before behind

-- The message m, written again from its record v, is the message m.
pub record Again (m : List ℕ) (v : Verdict) : Type 0 where
  pub kind : Kind
  pub bytes : List ℕ
  pub packed : List ℕ
  pub ours : Ours kind bytes packed
  pub its_record : record_for kind bytes packed ≡ v
  pub same : (out : List ℕ) → length m ≤ length out → writing kind bytes packed out ≡ putting m out

-- The bytes of a stream from one place up to another, less real time.
abbrev pub message_in : List ℕ → ℕ → ℕ → List ℕ
message_in s start end = without_real_time (between s start end)

-- Every message of a stream that is accepted is the same, less its real-time bytes, when it is written again.
abbrev pub WrittenAgain : Type 0
WrittenAgain = (s : List ℕ) → All (λ r. answer_of r.verdict ≡ 0 → Again (message_in s r.start r.end) r.verdict) (reports judge s)

-- What reading gave, a buffer lent: the message that was read, written again from the answer's bytes and the packed bytes in the buffer, is the same.
pub record ReadAgain (s lent : List ℕ) (e : Effect Reading) : Type 0 where
  pub packed : List ℕ
  pub into : e.lent ≡ packed ++ drop (length packed) lent
  pub again : let r = e.result in Again (message_in s r.start r.end) (done r.outcome.detail r.bytes packed)

-- Every message that reading accepts, from any place and into any buffer.
abbrev pub ReadWrittenAgain : Type 0
ReadWrittenAgain = (s : List ℕ) (place : ℕ) (lent : List ℕ) → (read judge s place lent).result.outcome.answer ≡ 0 → ReadAgain s lent (read judge s place lent)

-- The reports of n patches of a bank that begins at a place, from number k on: dump after dump, each with its number and its own 134 bytes.
abbrev pub bank_reports : ℕ → ℕ → ℕ → List ℕ → List Report
bank_reports place zero k ps = []
bank_reports place (suc n) k ps =
    report (place + k * single_patch.length) (place + (k + 1) * single_patch.length)
    (record_for (of_dump single_patch) (k ∷ []) (take size (drop (k * size) ps))) 0 ∷ bank_reports place n (k + 1) ps

-- The bytes that the writer of a bank put at the start of an output.
abbrev pub bank_sent : List ℕ → List ℕ → List ℕ
bank_sent ps out = take (writing_bank ps out).result.outcome.detail (writing_bank ps out).lent

-- A bank that is written, with any bytes before and behind it, is read as its patches in order with their numbers, and nothing else.
abbrev pub BankReadBack : Type 0
BankReadBack = (ps out : List ℕ) → (writing_bank ps out).result.outcome.answer ≡ 0 → (before behind : List ℕ)
    → reports judge (stream before (bank_sent ps out) behind)
    ≡ reports_before before (bank_sent ps out) behind ++ (bank_reports (length before) (length ps / size) 0 ps ++ reports_after before (bank_sent ps out) behind)

-- Demand 2, whole.
pub record Demand2 : Type 0 where
  -- what is said of the kinds that are ours is said of each kind of the list
  pub each_kind_ours : All Filed kinds
  pub written_read_back : WrittenReadBack
  pub bank_read_back : BankReadBack
  -- a record tells what a writer is given
  pub record_tells : (k : Kind) (b p : List ℕ) (l : Kind) (c q : List ℕ) → Ours k b p → Ours l c q → record_for k b p ≡ record_for l c q
      → (k ≡ l) × (b ≡ c) × (p ≡ q)
  pub written_again : WrittenAgain
  pub read_written_again : ReadWrittenAgain
  -- an edit that is done changes its own field, or the three bytes of its bus, and no other byte
  pub edit_own_field : (parameter v : ℕ) (p : List ℕ) → (applying parameter v p).result.answer ≡ 0 → EditDone parameter v p
  pub bus_own_field : (bus source amount destination : ℕ) (p : List ℕ) → (applying_bus bus source amount destination p).result.answer ≡ 0
      → BusDone bus source amount destination p
  -- a name that is set is the name that is shown, and a name that is shown and set again changes nothing
  pub name_set_shown : (p text out : List ℕ) → (naming p text).result.answer ≡ 0 → 8 ≤ length out
      → showing (naming p text).lent out ≡ record { result = outcome 0 8; lent = text ++ drop 8 out }
  pub name_shown_set : (p out : List ℕ) → (showing p out).result.answer ≡ 0
      → naming p (take 8 (showing p out).lent) ≡ record { result = outcome 0 0; lent = p }
