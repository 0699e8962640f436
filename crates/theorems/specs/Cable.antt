-- Request (iv), reading straight from the cable: what a reader gives that is fed a stream is what the file gives, so all that is stated of reports holds
-- of it, and demand 3 too.
use Rattle.std.specs.Prelude.{◌≡◌, List, [], ◌∷◌, ◌++◌, map, ℕ, ◌+◌, ◌-◌, ◌≤◌, ◌<◌, length}
use Rattle.answers.specs.Lists.{All}
use Rattle.answers.specs.Table.{Verdict}
use Rattle.streams.specs.Stream.{report}
use Rattle.streams.specs.promises.Noise.{Counted}
use Rattle.reading.specs.code.Told.{report_as}
use Rattle.cable.specs.Cable.{fresh_record, ending}
use Rattle.cable.specs.promises.Answers.{Answers}
use Rattle.cable.specs.promises.Cuts.{Entry, given, entry_of, run, EveryCut}
use Rattle.theorems.specs.Answers.{found, complete}
use Rattle.theorems.specs.Damage.{Damage, damaged, Allowed, stream, EveryPatchDump}
use Rattle.theorems.specs.Found.{Tells, brought_by}
use Rattle.theorems.specs.Withdrawn.{Not14}

-- All that a reader gives from a fresh start that is fed a stream in feeds of these sizes, bytes not taken being fed again, and then told the end.
abbrev pub from_cable : List ℕ → List ℕ → List Entry
from_cable ns s = let r = run ns fresh_record s in r.entries ++ given (ending r.state)

-- A way of cutting by which all of a stream is taken; there is one for every stream, and 2n feeds with bytes are always enough (`EveryCut`).
pub record Cut (s : List ℕ) (ns : List ℕ) : Type 0 where
  pub short : length s ≤ 4294967295
  pub all : (run ns fresh_record s).left ≡ []

abbrev pub start_of : Entry → ℕ
start_of e = e.0.report.start

abbrev pub answer_of : Entry → ℕ
answer_of e = e.0.report.outcome.answer

-- What is said of each report: with 11 the value found, how noisy the line was, and never 14.
pub record Said (s : List ℕ) (e : Entry) : Type 0 where
  pub value : Tells (brought_by (complete (found s (start_of e)))) e.0.report.outcome
  pub noise : Counted s (start_of e) e.0.report.end e.0.report.noise
  pub not_14 : Not14 e.0.report.outcome

-- Places counted back from a stream's length.
abbrev pub entry_back : ℕ → Entry → Entry
entry_back n e =
    let r = e.0.report in
    (record { report = report_as (n - r.start) (n - r.end) r.outcome r.noise; bytes = e.0.bytes }, e.1)

-- What a reader gives of a stream with the dump d in it, and of the stream with the damaged dump e in its place: the same before, the same after with
-- places counted back; between them the dump's record, or refusals without a record.
pub record ContainedFrom (before d e behind : List ℕ) (v : Verdict) (whole spoilt : List Entry) : Type 0 where
  pub first : List Entry
  pub refusals : List Entry
  pub after : List Entry
  pub after_damage : List Entry
  pub undamaged : whole ≡ first ++ (entry_of (report (length before) (length before + length d) v 0) ∷ after)
  pub with_damage : spoilt ≡ first ++ (refusals ++ after_damage)
  pub refused : All (λ x. (answer_of x ≡ 0 → ⊥) × (x.1 ≡ [])) refusals
  pub same_after : map (entry_back (length (stream before e behind))) after_damage ≡ map (entry_back (length (stream before d behind))) after
  -- where they start: before the dump's F0H; from there on, before its closing F7H; behind that
  pub where_first : All (λ x. start_of x < length before) first
  pub where_refused : All (λ x. (length before ≤ start_of x) × (start_of x < length before + length e - 1)) refusals
  pub where_after : All (λ x. length before + length d ≤ start_of x) after
  pub where_after_damage : All (λ x. length before + length e ≤ start_of x) after_damage

pub record FromTheCable : Type 0 where
  pub every_cut : EveryCut
  pub answers : Answers
  pub said : (s ns : List ℕ) → Cut s ns → All (Said s) (from_cable ns s)
  -- demand 3, however the two streams are cut
  pub demand_3 : EveryPatchDump (λ d v. (before behind : List ℕ) (x : Damage) → Allowed x d → (ns ms : List ℕ)
      → Cut (stream before d behind) ns → Cut (stream before (damaged x d) behind) ms
      → ContainedFrom before d (damaged x d) behind v (from_cable ns (stream before d behind)) (from_cable ms (stream before (damaged x d) behind)))
