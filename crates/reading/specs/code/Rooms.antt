-- Reports in lent room, their numbers one after the other.
use Rattle.std.specs.Prelude.{◌≡◌, List, [], ◌∷◌, ◌++◌, ℕ, suc, ◌*◌, ◌/◌, ◌≤◌, length, take, drop, get_or}
use Rattle.answers.specs.declared.Outcome.{Outcome}
use Rattle.answers.specs.Lists.{All}
use Rattle.answers.specs.Table.{outcome_at, outcome_of}
use Rattle.answers.specs.code.Numbers.{as_number, of_number}
use Rattle.streams.specs.Stream.{Report, reports}
use Rattle.streams.specs.code.Scan.{outside, inside, scan}
use Rattle.messages.specs.Judge.{judge}
use Rattle.reading.specs.code.Told.{report_as, report_of, numbers_told}
use Rattle.reading.specs.declared.listing.Listed.{Listed}
use Rattle.reading.specs.declared.walking.Report.{Report as Told}

-- A report's outcome.
abbrev pub outcome_in : Report → Outcome
outcome_in r = outcome_of r.verdict

-- A report's numbers, and how many they are.
abbrev pub numbers_of : Report → List ℕ
numbers_of r = numbers_told (report_of r)

abbrev pub width : ℕ
width = 6

-- Where the value stands among them, and the noise behind it.
abbrev pub value_among : ℕ
value_among = 4

abbrev pub noise_among : ℕ
noise_among = 5

unfoldable pub flat : List Report → List ℕ
flat [] = []
flat (r ∷ rs) = numbers_of r ++ flat rs

-- The reports from just behind the F0H at a place on.
abbrev pub reports_inside : ℕ → List ℕ → List Report
reports_inside start rest = scan judge (suc start) (inside start [] 0) rest

-- As many reports as a room has place for.
abbrev pub fitting : List ℕ → List Report → List Report
fitting room rs = take (length room / width) rs

-- A report's number for its value stands for that value.
abbrev pub ReadsBack : Report → Type 0
ReadsBack r = of_number (as_number (outcome_in r).value) ≡ (outcome_in r).value

-- The reports rs stand at the start of a room, the numbers behind them are kept, and n is how many reports they are.
pub record Holds (rs : List Report) (old new : List ℕ) (n : ℕ) : Type 0 where
  pub count : n ≡ length rs
  pub numbers : new ≡ flat rs ++ drop (width * length rs) old
  pub values : All ReadsBack rs

-- The end of the last of some reports; the place p where there is none.
unfoldable pub end_of : ℕ → List Report → ℕ
end_of p [] = p
end_of p (r ∷ rs) = end_of r.end rs

-- One call makes at most so many.
abbrev pub most : ℕ
most = 8

-- The reports from a place on that one call makes: as many as the room has place for, at most 8.
unfoldable pub made : List ℕ → ℕ → List ℕ → List Report
made s place room = take most (fitting room (scan judge place outside (drop place s)))

-- What one call gives: the reports, and the end of the last, from where to go on.
pub record Makes (s : List ℕ) (place : ℕ) (old new : List ℕ) (r : Listed) : Type 0 where
  pub holds : Holds (made s place old) old new r.count
  pub next : r.next ≡ end_of place (made s place old)

-- The report that stands at the start of some numbers, as C and Rust take it from there.
abbrev pub listed : List ℕ → Told
listed ns =
    report_as (get_or ns 0 0) (get_or ns 1 0) (outcome_at (get_or ns 2 0) (get_or ns 3 0) (of_number (get_or ns value_among 0))) (get_or ns noise_among 0)

-- The reports rs are those that stand one behind the other in a room.
abbrev pub StandIn : List Report → List ℕ → Type 0
StandIn [] ns = Unit {0}
StandIn (r ∷ rs) ns = (listed ns ≡ report_of r) × StandIn rs (drop width ns)

-- After every call, the reports that it made are taken from the room as they are, value and noise included.
abbrev pub RoomTells : Type 0
RoomTells = (s : List ℕ) (place : ℕ) (old new : List ℕ) (r : Listed) → Makes s place old new r → StandIn (made s place old) new

-- The reports of calls from a place on, each with a room of its own, each next call from the end of the last report.
abbrev pub reports_by_calls : List ℕ → ℕ → List (List ℕ) → List Report
reports_by_calls s place [] = []
reports_by_calls s place (room ∷ rooms) = made s place room ++ reports_by_calls s (end_of place (made s place room)) rooms

-- Calls from 0 on, each with room for a report, make the reports of the stream: as many calls as there are bytes are enough.
abbrev pub CallsMakeReports : Type 0
CallsMakeReports =
    (s : List ℕ) (rooms : List (List ℕ)) → All (λ room. width ≤ length room) rooms → length s ≤ length rooms → reports_by_calls s 0 rooms ≡ reports judge s
