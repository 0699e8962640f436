-- The listing of an input: all that the program prints for the bytes on its standard input.
use Rattle.std.specs.Prelude.{cond, List, [], ◌∷◌, ◌++◌, ℕ, leb, length}
use Rattle.answers.specs.declared.Outcome.{Outcome}
use Rattle.text.specs.Text.{ascii, followed, signed, spaced}
use Rattle.streams.specs.Stream.{Report, reports}
use Rattle.messages.specs.Judge.{judge}
use Rattle.reading.specs.code.Rooms.{outcome_in}

-- Programs take at most this many bytes.
abbrev pub most : ℕ
most = 65536

unfoldable pub header : List ℕ
header = ascii "start end answer detail value rt\n"

-- A line: where a message starts and ends, its answer, detail and value, and how many real-time bytes stood in it.
abbrev pub line : ℕ → ℕ → Outcome → ℕ → List ℕ
line start end o noise = spaced (start ∷ end ∷ o.answer ∷ o.detail ∷ []) ++ (signed o.value 0x20 ++ followed noise 0x0A)

-- A line for each report.
unfoldable pub lines : List Report → List ℕ
lines [] = []
lines (r ∷ rs) = line r.start r.end (outcome_in r) r.noise ++ lines rs

-- The last line: how many messages there are.
unfoldable pub total : ℕ → List ℕ
total n = ascii "messages " ++ followed n 0x0A

unfoldable pub too_long : List ℕ
too_long = ascii "input too long\n"

unfoldable pub listing_of : List ℕ → List ℕ
listing_of s =
    cond (leb (length s) most)
    (header ++ (lines (reports judge s) ++ total (length (reports judge s))))
    too_long
