-- Ranges of bytes, and tables of them: a row for each place of packed bytes.
use Rattle.std.specs.Prelude.{ℕ, suc, Bool, cond, not, ◌&&◌, ◌||◌, List, [], ◌∷◌, length, ℤ, ◌==◌, nat_le, nat_lt, slice_index, slice_index_or}
use Rattle.std.proofs.Math.Option.{Option, none, some}
use Rattle.answers.specs.Table.{Row, row, row_found, Found, found}
use Rattle.ranges.specs.Values.{value_by}

-- A row: place, parameter, least and greatest value. Values are bytes as stored; where the least is above the greatest the field is signed,
-- and its range goes on from 255 to 0: C0H..3FH is -64..63, E0H..1FH is -32..31.
abbrev pub Table : Type 0
Table = List (List ℕ)

abbrev pub field : ℕ → ℕ → ℕ → ℕ → List ℕ
field place parameter least greatest = place ∷ parameter ∷ least ∷ greatest ∷ []

-- The four numbers of row k, each 0 past the table.
abbrev pub place_in : Table → ℕ → ℕ
place_in t k = slice_index (slice_index_or t k []) 0

abbrev pub parameter_in : Table → ℕ → ℕ
parameter_in t k = slice_index (slice_index_or t k []) 1

abbrev pub least_in : Table → ℕ → ℕ
least_in t k = slice_index (slice_index_or t k []) 2

abbrev pub greatest_in : Table → ℕ → ℕ
greatest_in t k = slice_index (slice_index_or t k []) 3

-- A byte lies between two bounds.
unfoldable pub between : ℕ → ℕ → ℕ → Bool
between least greatest b =
    nat_lt b 256 && cond (nat_le least greatest) (nat_le least b && nat_le b greatest) (nat_le least b || nat_le b greatest)

-- A byte lies in the range of its row.
unfoldable pub in_row : Table → ℕ → ℕ → Bool
in_row t k b = between (least_in t k) (greatest_in t k) b

-- Its field is signed: the least byte is above the greatest.
abbrev pub signed_in : Table → ℕ → Bool
signed_in t k = nat_lt (greatest_in t k) (least_in t k)

-- The value of a byte at a place.
abbrev pub value_in : Table → ℕ → ℕ → ℤ
value_in t k b = value_by (signed_in t k) b

-- The lowest place out of range among bytes the first of which stands at place k, and the value found there.
unfoldable pub out_from : Table → ℕ → List ℕ → Option Found
out_from t k [] = none
out_from t k (b ∷ p) = cond (in_row t k b) (out_from t (suc k) p) (some (found k (value_in t k b)))

-- The same of bytes that may have a table.
abbrev pub out_by : Option Table → List ℕ → Option Found
out_by none p = none
out_by (some t) p = out_from t 0 p

-- The tests of n bytes: 7 for another count of them, then 11 by their table.
abbrev pub counted_rows : ℕ → Option Table → List ℕ → List Row
counted_rows n t p = row 7 (not (length p == n)) ∷ row_found 11 (out_by t p) ∷ []
