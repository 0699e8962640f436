-- Document 02 (ii): each of a unit's two files is made from the other, and made again it is the same file.
use Rattle.std.specs.Prelude.{◌≡◌, true, List, ℕ, ◌≤◌, ◌<◌, length, take}
use Rattle.answers.specs.declared.Placed.{Placed}
use Rattle.answers.specs.Lists.{All}
use Rattle.answers.specs.Table.{outcome}
use Rattle.answers.specs.Effect.{Effect, tested, at_start, no_place}
use Rattle.streams.specs.Bytes.{without_real_time, real_time_in}
use Rattle.stored.specs.Records.{Record, packed_for, of_unit, old_file, new_file}
use Rattle.stored.specs.Files.{rows_for, to_stored, from_stored}

-- A record that its writer takes: it passes the writer's tests, and what it packs is bytes.
pub record Good (r : Record) : Type 0 where
  pub passes : tested (rows_for r) ≡ outcome 0 0
  pub bytes : All (λ b. b < 256) (packed_for r)

-- The records of a unit: in the form, and each good. Their numbers may repeat, and stand in any order.
pub record IsUnit (rs : List Record) : Type 0 where
  pub form : of_unit rs ≡ true
  pub good : All Good rs

-- The bytes m at an output's start, the bytes behind them kept.
abbrev pub putting : List ℕ → List ℕ → Effect Placed
putting m out = record { result = no_place (outcome 0 (length m)); lent = at_start m out }

abbrev pub Done : Effect Placed → Type 0
Done e = e.result.outcome.answer ≡ 0

-- The bytes that a call put at the start of its output: as many as its detail says.
abbrev pub sent : Effect Placed → List ℕ
sent e = take e.result.outcome.detail e.lent

-- An old file that is accepted: less its real time it is the old file of a unit's records, and their new file is written.
pub record OldFile (s out : List ℕ) : Type 0 where
  pub records : List Record
  pub unit : IsUnit records
  pub same : without_real_time s ≡ old_file records
  pub written : to_stored s out ≡ putting (new_file records) out

-- A new file that is accepted: it is the new file of a unit's records, and their old file is written.
pub record NewFile (t out : List ℕ) : Type 0 where
  pub records : List Record
  pub unit : IsUnit records
  pub same : t ≡ new_file records
  pub written : from_stored t out ≡ putting (old_file records) out

pub record BothWays : Type 0 where
  -- every unit's old file gives its new one, and that gives the old one
  pub stores : (rs : List Record) (out : List ℕ) → IsUnit rs → length (new_file rs) ≤ length out → to_stored (old_file rs) out ≡ putting (new_file rs) out
  pub restores : (rs : List Record) (out : List ℕ) → IsUnit rs → length (old_file rs) ≤ length out → from_stored (new_file rs) out ≡ putting (old_file rs) out
  -- nothing else is accepted
  pub old_accepted : (s out : List ℕ) → Done (to_stored s out) → OldFile s out
  pub new_accepted : (t out : List ℕ) → All (λ b. b < 256) t → Done (from_stored t out) → NewFile t out
  -- old to new to old: the same file, less the real time inside its dumps; the same where each dump is as our writer writes it
  pub old_new_old : (s out back : List ℕ) → Done (to_stored s out) → length (without_real_time s) ≤ length back
      → from_stored (sent (to_stored s out)) back ≡ putting (without_real_time s) back
  pub as_written : (s out back : List ℕ) → Done (to_stored s out) → real_time_in s ≡ 0 → length s ≤ length back
      → from_stored (sent (to_stored s out)) back ≡ putting s back
  -- new to old to new: the same file
  pub new_old_new : (t out back : List ℕ) → All (λ b. b < 256) t → Done (from_stored t out) → length t ≤ length back
      → to_stored (sent (from_stored t out)) back ≡ putting t back
  -- a file tells its records, and so neither form has two files for one unit
  pub old_tells : (rs qs : List Record) → IsUnit rs → IsUnit qs → old_file rs ≡ old_file qs → rs ≡ qs
  pub new_tells : (rs qs : List Record) → IsUnit rs → IsUnit qs → new_file rs ≡ new_file qs → rs ≡ qs
  -- no unit's file is longer
  pub old_most : (rs : List Record) → IsUnit rs → length (old_file rs) ≤ 27851
  pub new_most : (rs : List Record) → IsUnit rs → length (new_file rs) ≤ 13682
