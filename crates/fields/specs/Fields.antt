-- The 134 bytes of a patch: place, parameter, least and greatest value of each, document 01's listing in full.
use Rattle.std.specs.Prelude.{ℕ, zero, suc, ◌+◌, Bool, true, false, cond, ◌||◌, [], ◌∷◌, ℤ, ◌==◌, nat_le, nat_lt}
use Rattle.std.proofs.Math.Option.{Option, none, some}
use Rattle.ranges.specs.Ranges.{Table, field, place_in, parameter_in, least_in, greatest_in, in_row, value_in}

-- How many bytes a patch has.
abbrev pub size : ℕ
size = 134

-- A bus destination is 0..32 (02 (i)): Table 3 of 000 decides, whose last code, 32, is Portamento Time.
abbrev pub last_destination : ℕ
last_destination = 32

-- Parameter 255 stands where a place has none.
unfoldable pub fields : Table
fields =
    -- The name.
    field 0 255 0 63 ∷ field 1 255 0 63 ∷ field 2 255 0 63 ∷ field 3 255 0 63 ∷
    field 4 255 0 63 ∷ field 5 255 0 63 ∷ field 6 255 0 63 ∷ field 7 255 0 63 ∷
    -- The numbered fields.
    field 8 48 0 3 ∷ field 9 0 0 63 ∷ field 10 5 0 63 ∷ field 11 3 0 63 ∷
    field 12 7 0 3 ∷ field 13 6 0 3 ∷ field 14 10 0 63 ∷ field 15 15 0 63 ∷
    field 16 13 0 63 ∷ field 17 17 0 3 ∷ field 18 16 0 7 ∷ field 19 12 0xE0 0x1F ∷
    field 20 20 0 63 ∷ field 21 8 0 3 ∷ field 22 9 0 1 ∷ field 23 18 0 3 ∷
    field 24 19 0 1 ∷ field 25 2 0 3 ∷ field 26 21 0 127 ∷ field 27 24 0 63 ∷
    field 28 25 0 3 ∷ field 29 26 0 3 ∷ field 30 30 0 63 ∷ field 31 27 0 63 ∷
    field 32 44 0 63 ∷ field 33 46 0 3 ∷ field 34 47 0 1 ∷ field 35 80 0 63 ∷
    field 36 86 0 3 ∷ field 37 87 0 1 ∷ field 38 82 0 6 ∷ field 39 83 0 31 ∷
    field 40 88 0 20 ∷ field 41 84 0 63 ∷ field 42 90 0 63 ∷ field 43 96 0 3 ∷
    field 44 97 0 1 ∷ field 45 92 0 6 ∷ field 46 93 0 31 ∷ field 47 98 0 20 ∷
    field 48 94 0 63 ∷ field 49 57 0 7 ∷ field 50 50 0 63 ∷ field 51 51 0 63 ∷
    field 52 52 0 63 ∷ field 53 53 0 63 ∷ field 54 54 0 63 ∷ field 55 55 0 63 ∷
    field 56 59 0 3 ∷ field 57 58 0 3 ∷ field 58 67 0 7 ∷ field 59 60 0 63 ∷
    field 60 61 0 63 ∷ field 61 62 0 63 ∷ field 62 63 0 63 ∷ field 63 64 0 63 ∷
    field 64 65 0 63 ∷ field 65 69 0 3 ∷ field 66 68 0 3 ∷ field 67 77 0 7 ∷
    field 68 70 0 63 ∷ field 69 71 0 63 ∷ field 70 72 0 63 ∷ field 71 73 0 63 ∷
    field 72 74 0 63 ∷ field 73 75 0 63 ∷ field 74 79 0 3 ∷ field 75 78 0 3 ∷
    field 76 33 1 20 ∷ field 77 34 0 63 ∷ field 78 35 0 63 ∷ field 79 36 0 63 ∷
    field 80 37 0 63 ∷ field 81 38 0 63 ∷ field 82 40 0 63 ∷ field 83 41 0 3 ∷
    field 84 42 0 63 ∷ field 85 43 0 3 ∷
    -- The signed amounts.
    field 86 1 0xC0 0x3F ∷ field 87 4 0xC0 0x3F ∷ field 88 11 0xC0 0x3F ∷ field 89 14 0xC0 0x3F ∷
    field 90 22 0xC0 0x3F ∷ field 91 23 0xC0 0x3F ∷ field 92 28 0xC0 0x3F ∷ field 93 29 0xC0 0x3F ∷
    field 94 56 0xC0 0x3F ∷ field 95 66 0xC0 0x3F ∷ field 96 76 0xC0 0x3F ∷ field 97 85 0xC0 0x3F ∷
    field 98 95 0xC0 0x3F ∷ field 99 45 0xC0 0x3F ∷ field 100 31 0xC0 0x3F ∷ field 101 32 0xC0 0x3F ∷
    field 102 81 0xC0 0x3F ∷ field 103 91 0xC0 0x3F ∷
    -- The buses: source, amount, destination.
    field 104 255 0 20 ∷ field 105 255 0xC0 0x3F ∷ field 106 255 0 last_destination ∷
    field 107 255 0 20 ∷ field 108 255 0xC0 0x3F ∷ field 109 255 0 last_destination ∷
    field 110 255 0 20 ∷ field 111 255 0xC0 0x3F ∷ field 112 255 0 last_destination ∷
    field 113 255 0 20 ∷ field 114 255 0xC0 0x3F ∷ field 115 255 0 last_destination ∷
    field 116 255 0 20 ∷ field 117 255 0xC0 0x3F ∷ field 118 255 0 last_destination ∷
    field 119 255 0 20 ∷ field 120 255 0xC0 0x3F ∷ field 121 255 0 last_destination ∷
    field 122 255 0 20 ∷ field 123 255 0xC0 0x3F ∷ field 124 255 0 last_destination ∷
    field 125 255 0 20 ∷ field 126 255 0xC0 0x3F ∷ field 127 255 0 last_destination ∷
    field 128 255 0 20 ∷ field 129 255 0xC0 0x3F ∷ field 130 255 0 last_destination ∷
    field 131 255 0 20 ∷ field 132 255 0xC0 0x3F ∷ field 133 255 0 last_destination ∷ []

abbrev pub place_at : ℕ → ℕ
place_at k = place_in fields k

abbrev pub parameter_at : ℕ → ℕ
parameter_at k = parameter_in fields k

abbrev pub least_at : ℕ → ℕ
least_at k = least_in fields k

abbrev pub greatest_at : ℕ → ℕ
greatest_at k = greatest_in fields k

-- A byte lies in the range of its field.
abbrev pub in_range : ℕ → ℕ → Bool
in_range place b = in_row fields place b

-- The value of a byte at a place, with its sign where the field has one.
abbrev pub value_at : ℕ → ℕ → ℤ
value_at place b = value_in fields place b

-- The first of the m rows from row k on whose parameter is n: its place.
unfoldable pub search_from : ℕ → ℕ → ℕ → Option ℕ
search_from zero k n = none
search_from (suc m) k n = cond (parameter_at k == n) (some (place_at k)) (search_from m (k + 1) n)

-- The place of a parameter. Parameter numbers are 0..99.
unfoldable pub place_of : ℕ → Option ℕ
place_of n = cond (nat_lt 99 n) none (search_from size 0 n)

-- The parameter of a place.
unfoldable pub parameter_of : ℕ → Option ℕ
parameter_of k = cond (nat_le size k || parameter_at k == 255) none (some (parameter_at k))

-- A number that is no parameter's has no place.
abbrev pub missing : Option ℕ → Bool
missing none = true
missing (some k) = false
