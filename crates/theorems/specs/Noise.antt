-- Request (viii), how noisy was the line: every report holds how many bytes F8H..FFH stand between its start and its end, whatever its answer.
use Rattle.std.specs.Prelude.{List, ℕ, length}
use Rattle.answers.specs.Lists.{All}
use Rattle.streams.specs.Stream.{reports_from}
use Rattle.streams.specs.promises.Noise.{Counted, Heard}
use Rattle.messages.specs.Judge.{judge}
use Rattle.reading.specs.code.Told.{walked, reads}
use Rattle.reading.specs.code.Rooms.{made}

pub record HowNoisy : Type 0 where
  -- the walk from any place of any stream, and reading a record there into any buffer, with 1 and 13 too
  pub walk : (s : List ℕ) (place : ℕ) → let r = walked s place in Counted s r.start r.end r.noise
  pub read : (s : List ℕ) (place : ℕ) (lent : List ℕ) → let r = (reads s place lent).result.report in Counted s r.start r.end r.noise
  -- each report of a stream, from any place on, and those that one call makes
  pub reports_each : (s : List ℕ) (place : ℕ) → All (Heard judge s) (reports_from judge (length s) s place)
  pub reports_made : (s : List ℕ) (place : ℕ) (room : List ℕ) → All (Heard judge s) (made s place room)
