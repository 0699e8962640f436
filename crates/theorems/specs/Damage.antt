-- Demand 3: one damaged byte of a patch dump, or two neighbours, cost that dump alone.
use Rattle.std.specs.Prelude.{◌≡◌, Bool, ◌&&◌, cond, List, [], ◌∷◌, ◌++◌, map, ℕ, suc, ◌+◌, ◌-◌, ◌≤◌, ◌<◌, leb, ltb, length, take, drop, get_or}
use Rattle.answers.specs.Lists.{All}
use Rattle.answers.specs.Table.{Verdict, answer_of, outcome}
use Rattle.answers.specs.Effect.{Effect, tested}
use Rattle.streams.specs.Stream.{Report, report, Reading, reading, reports, read}
use Rattle.messages.specs.declared.kinds.Dump.{Dump}
use Rattle.messages.specs.declared.kinds.Kind.TheVariants.{Dump as of_dump}
use Rattle.messages.specs.declared.kinds.Packed.TheVariants.{Patch as a_patch}
use Rattle.messages.specs.Kinds.{Filed}
use Rattle.messages.specs.Judge.{judge}
use Rattle.messages.specs.Layout.{message, record_for, given_rows}
use Rattle.messages.specs.promises.Given.{Given}

-- One byte replaced, lost, or one added in front of it; two neighbours replaced, or exchanged.
pub data Damage : Type 0 where
  replace : (place new : ℕ) → Damage
  lose : (place : ℕ) → Damage
  add : (place new : ℕ) → Damage
  replace_two : (place new next : ℕ) → Damage
  exchange : (place : ℕ) → Damage

-- At place i of d, n bytes give way to the bytes w.
abbrev pub instead : ℕ → ℕ → List ℕ → List ℕ → List ℕ
instead i n w d = take i d ++ (w ++ drop (i + n) d)

abbrev pub damaged : Damage → List ℕ → List ℕ
damaged (replace i y) d = instead i 1 (y ∷ []) d
damaged (lose i) d = instead i 1 [] d
damaged (add i y) d = instead i 0 (y ∷ []) d
damaged (replace_two i y z) d = instead i 2 (y ∷ z ∷ []) d
damaged (exchange i) d = instead i 2 (get_or d (suc i) 0 ∷ get_or d i 0 ∷ []) d

-- Places 5 to 272 of a dump are its data bytes, 273 its checksum, 274 its closing F7H. A byte replaced differs; a byte added is not real time.
-- Document 02 (xiii): the two nibbles of one packed byte are replaced by values below 80H, not both by themselves; two unequal neighbours among the
-- data and the checksum are exchanged. More is allowed here: any two neighbouring data bytes, any values but F0H 10H, which begin a message of ours;
-- any neighbours behind the F0H.
abbrev pub Allowed : Damage → List ℕ → Type 0
Allowed (replace i y) d = (5 ≤ i) × (i < 274) × (y ≡ get_or d i 0 → ⊥)
Allowed (lose i) d = (5 ≤ i) × (i < 274)
Allowed (add i y) d = (5 ≤ i) × (i < 274) × (y < 0xF8)
Allowed (replace_two i y z) d = (5 ≤ i) × (suc i < 273) × (y ≡ get_or d i 0 → z ≡ get_or d (suc i) 0 → ⊥) × (y ≡ 0xF0 → z ≡ 0x10 → ⊥)
Allowed (exchange i) d = (1 ≤ i) × (suc i < 275) × (get_or d i 0 ≡ get_or d (suc i) 0 → ⊥)

abbrev pub keep : (Report → Bool) → List Report → List Report
keep t [] = []
keep t (r ∷ l) = cond (t r) (r ∷ keep t l) (keep t l)

-- The reports that start before place m; from m on and before n; from n on.
abbrev pub start_before : ℕ → List Report → List Report
start_before m = keep (λ r. ltb r.start m)

abbrev pub start_within : ℕ → ℕ → List Report → List Report
start_within m n = keep (λ r. leb m r.start && ltb r.start n)

abbrev pub start_from : ℕ → List Report → List Report
start_from n = keep (λ r. leb n r.start)

-- Places counted back from a stream's length.
abbrev pub counted_back : ℕ → Report → Report
counted_back n r = report (n - r.start) (n - r.end) r.verdict r.noise

abbrev pub reading_back : ℕ → Effect Reading → Effect Reading
reading_back n e =
    let r = e.result in
    record { result = reading (n - r.start) (n - r.end) r.outcome r.noise r.bytes; lent = e.lent }

-- What reading a record gives at the start of each report of a list, lent the same buffer.
abbrev pub readings : List ℕ → List ℕ → List Report → List (Effect Reading)
readings s lent = map (λ r. read judge s r.start lent)

-- A stream that has the bytes d between others, and the three parts of its reports: those that start before d's F0H,
-- those that start from it on and before d's last byte, and those that start behind that.
module _ (before d behind : List ℕ) where
  abbrev pub stream : List ℕ
  stream = before ++ (d ++ behind)

  abbrev pub reports_before : List Report
  reports_before = start_before (length before) (reports judge stream)

  abbrev pub reports_of_dump : List Report
  reports_of_dump = start_within (length before) (length before + length d - 1) (reports judge stream)

  abbrev pub reports_after : List Report
  reports_after = start_from (length before + length d) (reports judge stream)

-- A reading with neither 0 nor 13, its buffer as it was.
abbrev pub Spoilt : List ℕ → Effect Reading → Type 0
Spoilt lent e = (e.result.outcome.answer ≡ 0 → ⊥) × (e.result.outcome.answer ≡ 13 → ⊥) × (e.lent ≡ lent)

-- The dump d, or the damaged dump e in its place, between any bytes: what is the same and what is not.
pub record Contained (before d e behind : List ℕ) (v : Verdict) : Type 0 where
  -- every report of either stream is one before, one of the dump, or one after, in this order
  pub whole : reports judge (stream before d behind) ≡ reports_before before d behind ++ (reports_of_dump before d behind ++ reports_after before d behind)
  pub whole_damaged : reports judge (stream before e behind) ≡ reports_before before e behind ++ (reports_of_dump before e behind ++ reports_after before e behind)
  -- the reports before are the same list; the reports after too, with places counted back from the stream's length
  pub same_before : reports_before before e behind ≡ reports_before before d behind
  pub same_after : map (counted_back (length (stream before e behind))) (reports_after before e behind)
      ≡ map (counted_back (length (stream before d behind))) (reports_after before d behind)
  -- the undamaged dump has one report, with answer 0, its record and no real time; no report of the damaged dump has answer 0
  pub accepted : reports_of_dump before d behind ≡ report (length before) (length before + length d) v 0 ∷ []
  pub refused : All (λ r. answer_of r.verdict ≡ 0 → ⊥) (reports_of_dump before e behind)
  -- reading at a report before or after gives the same and leaves equal bytes, lent a buffer of any length and content
  pub read_before : (lent : List ℕ)
      → readings (stream before e behind) lent (reports_before before e behind) ≡ readings (stream before d behind) lent (reports_before before d behind)
  pub read_after : (lent : List ℕ)
      → map (reading_back (length (stream before e behind))) (readings (stream before e behind) lent (reports_after before e behind))
      ≡ map (reading_back (length (stream before d behind))) (readings (stream before d behind) lent (reports_after before d behind))
  -- reading at a report of the damaged dump gives neither 0 nor 13, and leaves the buffer as it was
  pub read_damaged : (lent : List ℕ)
      → All (λ r. Spoilt lent r) (readings (stream before e behind) lent (reports_of_dump before e behind))

-- What is said of every dump of a patch, numbered or for the edit buffer, as its writer takes and writes it, and of its record.
abbrev pub EveryPatchDump : (List ℕ → Verdict → Type 0) → Type 0
EveryPatchDump Holds = (k : Dump) → Filed (of_dump k) → k.packed ≡ a_patch
    → (b p : List ℕ) → Given (of_dump k) b p → tested (given_rows (of_dump k) b p) ≡ outcome 0 0
    → Holds (message (of_dump k) b p) (record_for (of_dump k) b p)

-- Demand 3, whole.
abbrev pub Demand3 : Type 0
Demand3 = EveryPatchDump (λ d v. (before behind : List ℕ) (x : Damage) → Allowed x d → Contained before d (damaged x d) behind v)
