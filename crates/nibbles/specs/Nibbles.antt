-- How bytes are sent as nibbles, and their sum, for dumps of every kind and length.
use Rattle.std.specs.Prelude.{ℕ, suc, ◌+◌, ◌*◌, ◌/◌, ◌%◌, cond, List, [], ◌∷◌, length, ◌==◌, nat_lt}
use Rattle.std.proofs.Math.Option.{Option, none, some}
use Rattle.answers.specs.declared.Outcome.{Outcome}
use Rattle.answers.specs.Table.{Row, row, row_at}
use Rattle.answers.specs.Effect.{Effect, written}

-- Each byte is sent as its remainder by 16, then its quotient by 16.
unfoldable pub nibbles : List ℕ → List ℕ
nibbles [] = []
nibbles (b ∷ bs) = (b % 16) ∷ (b / 16) ∷ nibbles bs

-- The packed bytes of nibbles: low nibble first.
unfoldable pub pack : List ℕ → List ℕ
pack [] = []
pack (low ∷ []) = []
pack (low ∷ high ∷ ns) = (low + 16 * high) ∷ pack ns

unfoldable pub total : List ℕ → ℕ
total [] = 0
total (b ∷ bs) = b + total bs

-- The sum is that of the packed bytes, modulo 128.
unfoldable pub sum : List ℕ → ℕ
sum packed = total packed % 128

-- The index of the first data byte above 15, counted from i.
unfoldable pub wide_from : ℕ → List ℕ → Option ℕ
wide_from i [] = none
wide_from i (b ∷ bs) = cond (nat_lt 15 b) (some i) (wide_from (suc i) bs)

abbrev pub first_wide : List ℕ → Option ℕ
first_wide = wide_from 0

-- The tests of nibbles to pack: an odd number of them is 7, a byte above 15 is 9.
abbrev pub nibble_rows : List ℕ → List Row
nibble_rows ns = row 7 (length ns % 2 == 1) ∷ row_at 9 (first_wide ns) ∷ []

-- Packing into a lent output.
unfoldable pub packing : List ℕ → List ℕ → Effect Outcome
packing ns out = written (nibble_rows ns) (pack ns) out

-- Unpacking into a lent output.
unfoldable pub unpacking : List ℕ → List ℕ → Effect Outcome
unpacking bytes out = written [] (nibbles bytes) out
