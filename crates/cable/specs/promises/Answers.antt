-- What a call of a reader answers, and exactly when: of every record, whether calls gave it or not.
use Rattle.std.specs.Prelude.{◌≡◌, true, false, List, [], ◌↔◌, ◌⊎◌, ℕ, ◌+◌, ◌≤◌, ◌<◌, pos, length}
use Rattle.answers.specs.Table.{four}
use Rattle.streams.specs.code.Scan.{outside}
use Rattle.messages.specs.promises.Numbers.{InTable}
use Rattle.cable.specs.declared.Cable.{Cable}
use Rattle.cable.specs.declared.Fed.{Fed}
use Rattle.cable.specs.declared.Step.{Step}
use Rattle.cable.specs.Cable.{held_by, packed_by, fresh_record, feeding, ending}

abbrev pub answer_in : Fed → ℕ
answer_in f = f.reading.report.outcome.answer

-- The answer of a message that ended: accepted, interrupted, or 4 to 12. So 13 never arises.
abbrev pub OfMessage : ℕ → Type 0
OfMessage n = (n ≡ 0) ⊎ (n ≡ 3) ⊎ InTable n

-- A call that took and changed nothing.
pub record Kept (c : Cable) (x : Step) : Type 0 where
  pub state : x.state ≡ c
  pub none : x.fed.taken ≡ 0
  pub quiet : x.fed.ended ≡ false

-- What a call tells without a report: start and end are one place, and all else is zero but the answer.
pub record NoReport (place : ℕ) (f : Fed) : Type 0 where
  pub start : f.reading.report.start ≡ place
  pub end : f.reading.report.end ≡ place
  pub detail : f.reading.report.outcome.detail ≡ 0
  pub value : f.reading.report.outcome.value ≡ pos 0
  pub noise : f.reading.report.noise ≡ 0
  pub bytes : f.reading.bytes ≡ four []

-- A feed before the end and within the limit is done, also where its report refuses a message.
pub record Done (c : Cable) (s : List ℕ) (x : Step) : Type 0 where
  -- the record moves on by what was taken, which is no more than there is
  pub place : x.state.taken ≡ c.taken + x.fed.taken
  pub within : x.fed.taken ≤ length s
  pub on : x.state.over ≡ false
  -- with a report, the bytes are taken up to the end of its message, and no further
  pub up_to : x.fed.ended ≡ true → x.fed.reading.report.end ≡ c.taken + x.fed.taken
  pub answered : x.fed.ended ≡ true → OfMessage (answer_in x.fed)
  -- without one, all of them, and no packed bytes are there any more
  pub all : x.fed.ended ≡ false → x.fed.taken ≡ length s
  pub zero : x.fed.ended ≡ false → answer_in x.fed ≡ 0
  pub plain : x.fed.ended ≡ false → NoReport 0 x.fed
  pub nothing : x.fed.ended ≡ false → packed_by x.state ≡ []

-- The first declared end.
pub record Ended (c : Cable) (x : Step) : Type 0 where
  pub none : x.fed.taken ≡ 0
  pub place : x.state.taken ≡ c.taken
  pub over : x.state.over ≡ true
  pub nothing : packed_by x.state ≡ []
  -- a message that is open ends where the input does; with none open, start and end are the input's length
  pub cut : c.inside ≡ true → (x.fed.ended ≡ true) × (answer_in x.fed ≡ 2) × (x.fed.reading.report.start ≡ c.start) × (x.fed.reading.report.end ≡ c.taken)
  pub no_message : c.inside ≡ false → (x.fed.ended ≡ false) × (answer_in x.fed ≡ 1) × NoReport c.taken x.fed

pub record Answers : Type 0 where
  -- a feed: 1 exactly behind the end; 21 exactly before it where its length and the bytes taken add up to more; then nothing changes
  pub feed_1 : (c : Cable) (s : List ℕ) → (answer_in (feeding c s).fed ≡ 1) ↔ (c.over ≡ true)
  pub feed_21 : (c : Cable) (s : List ℕ) → (answer_in (feeding c s).fed ≡ 21) ↔ ((c.over ≡ false) × (4294967295 < c.taken + length s))
  pub feed_over : (c : Cable) (s : List ℕ) → c.over ≡ true → Kept c (feeding c s) × NoReport c.taken (feeding c s).fed
  pub feed_many : (c : Cable) (s : List ℕ) → c.over ≡ false → 4294967295 < c.taken + length s → Kept c (feeding c s) × NoReport 0 (feeding c s).fed
  -- any other feed is done
  pub feed_done : (c : Cable) (s : List ℕ) → c.over ≡ false → c.taken + length s ≤ 4294967295 → Done c s (feeding c s)
  -- the declared end: 2 exactly for the first with a message open, else 1; a second changes nothing
  pub end_2 : (c : Cable) → (answer_in (ending c).fed ≡ 2) ↔ ((c.over ≡ false) × (c.inside ≡ true))
  pub end_1 : (c : Cable) → (answer_in (ending c).fed ≡ 1) ↔ ((c.over ≡ true) ⊎ (c.inside ≡ false))
  pub end_first : (c : Cable) → c.over ≡ false → Ended c (ending c)
  pub end_again : (c : Cable) → c.over ≡ true → Kept c (ending c) × NoReport c.taken (ending c).fed
  -- a fresh start has taken nothing, and has no message open and no packed bytes
  pub fresh : (fresh_record.taken ≡ 0) × (held_by fresh_record ≡ outside) × (packed_by fresh_record ≡ []) × (fresh_record.over ≡ false)
  -- 13 never arises
  pub never_13 : (c : Cable) (s : List ℕ) → (answer_in (feeding c s).fed ≡ 13 → ⊥) × (answer_in (ending c).fed ≡ 13 → ⊥)
