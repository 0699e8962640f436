-- Document 02 (iv): 'From a fresh start and for every way of cutting a stream of at most 4,294,967,295 bytes, bytes not taken being fed again, the
-- reports and records, with places counted from the first byte taken, equal those of the file walk.'
use Rattle.std.specs.Prelude.{◌≡◌, true, false, cond, List, [], ◌∷◌, ◌++◌, map, ℕ, zero, suc, ◌+◌, ◌*◌, ◌≤◌, ◌<◌, length, take, drop}
use Rattle.std.proofs.Math.Option.{some}
use Rattle.answers.specs.Lists.{All}
use Rattle.answers.specs.Effect.{at_start}
use Rattle.streams.specs.Stream as stream
use Rattle.streams.specs.Stream.{packed_in}
use Rattle.messages.specs.Kinds.{master}
use Rattle.messages.specs.Judge.{judge}
use Rattle.reading.specs.code.Told.{reads}
use Rattle.reading.specs.declared.recording.Reading.{Reading}
use Rattle.cable.specs.declared.Cable.{Cable}
use Rattle.cable.specs.declared.Step.{Step}
use Rattle.cable.specs.Cable.{packed_by, fresh_record, told, feeding, ending}

-- A report with its record: its numbers and the bytes that come with its answer, and a dump's packed bytes.
abbrev pub Entry : Type 0
Entry = Reading × List ℕ

-- The report of a call and the packed bytes that its record then has.
abbrev pub given : Step → List Entry
given x = cond x.fed.ended ((x.fed.reading, packed_by x.state) ∷ []) []

-- The same of a report of the file walk.
abbrev pub entry_of : stream.Report → Entry
entry_of r = ((told 0 (some r)).reading, packed_in r.verdict)

-- What feeds gave one after the other, the record behind them, and the bytes not yet taken.
pub record Run : Type 0 where
  pub entries : List Entry
  pub state : Cable
  pub left : List ℕ

-- A way of cutting is how many of the bytes that are left each feed has; those not taken are fed again.
abbrev pub run : List ℕ → Cable → List ℕ → Run
run [] c s = record { entries = []; state = c; left = s }
run (n ∷ ns) c s =
    let x = feeding c (take n s) in
    let r = run ns x.state (drop x.fed.taken s) in
    record { entries = given x ++ r.entries; state = r.state; left = r.left }

-- How many of the feeds have bytes in them, if any are left.
abbrev pub with_bytes : List ℕ → ℕ
with_bytes [] = 0
with_bytes (zero ∷ ns) = with_bytes ns
with_bytes (suc n ∷ ns) = suc (with_bytes ns)

-- Reading the record of a report of the stream from its start, lent a buffer that takes every dump, tells and stores the same.
abbrev pub ReadSo : List ℕ → stream.Report → Type 0
ReadSo s r = (lent : List ℕ) → master ≤ length lent → reads s r.start lent ≡ record { result = (entry_of r).0; lent = at_start (entry_of r).1 lent }

pub record AsTheFile (s : List ℕ) : Type 0 where
  -- once all bytes are taken and the end is declared: the reports and records of the file walk, in full
  pub every_cut : (ns : List ℕ) → let r = run ns fresh_record s in r.left ≡ [] → r.entries ++ given (ending r.state) ≡ map entry_of (stream.reports judge s)
  -- before that: the first of them
  pub so_far : (ns : List ℕ) → (more : List Entry) × (map entry_of (stream.reports judge s) ≡ (run ns fresh_record s).entries ++ more)
  -- a stream of n bytes needs at most 2n feeds with bytes in them
  pub gets_there : (ns : List ℕ) → 2 * length s ≤ with_bytes ns → (run ns fresh_record s).left ≡ []
  -- bytes with the answer and packed bytes are those that reading the file gives
  pub as_read : All (ReadSo s) (stream.reports judge s)

pub record EveryCut : Type 0 where
  pub as_the_file : (s : List ℕ) → length s ≤ 4294967295 → AsTheFile s
  -- a feed with bytes that takes none gives a report, and the next one takes some
  pub gets_on : (c : Cable) (s : List ℕ) → c.over ≡ false → c.taken + length s ≤ 4294967295 → 0 < length s → (feeding c s).fed.taken ≡ 0
      → ((feeding c s).fed.ended ≡ true) × ((t : List ℕ) → c.taken + length t ≤ 4294967295 → 0 < length t → 0 < (feeding (feeding c s).state t).fed.taken)
