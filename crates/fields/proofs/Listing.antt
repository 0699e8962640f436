-- The rows of the code, and its columns, are those of specs/, number for number; past the end there is nothing but 0.
use Rattle.std.proofs.Common.{◌≡◌, ℕ, ◌+◌, ◌-◌, ◌%◌, ◌<◌, ◌≤◌, List, [], eqb, leb, map, get_or, sym, refl, arith}
use Rattle.std.proofs.lemmas.Bool.Decides.{nat_tests}
use Rattle.std.proofs.Math.ListN.{get_or-map}
use Rattle.ranges.specs.Ranges.{in_row}
use Rattle.ranges.proofs.Between.{between_width}
use Rattle.fields.specs.Fields.{fields, least_at, greatest_at, in_range}
use Rattle.fields.specs.code.Lookups.{row_at}
use Rattle.fields.specs.declared.Field.{Field}
use Rattle.fields.proofs.Rules.{fields_rule, past}

abbrev pub row : List ℕ → Field
row r = record { 0 = get_or r 0 0; 1 = get_or r 1 0; 2 = get_or r 2 0; 3 = get_or r 3 0 }

abbrev pub all_rows : List Field
all_rows = map row fields

pub row_read : (k : ℕ) → get_or all_rows k (row []) ≡ row_at k
row_read k = get_or-map row fields k []

abbrev pub leasts : List ℕ
leasts = map (λ r. get_or r 2 0) fields

pub least_read : (k : ℕ) → get_or leasts k 0 ≡ least_at k
least_read k = get_or-map (λ r. get_or r 2 0) fields k []

-- How far the greatest value is above the least.
abbrev pub width_of : List ℕ → ℕ
width_of r = (get_or r 3 0 + (256 - get_or r 2 0)) % 256

abbrev pub widths : List ℕ
widths = map width_of fields

pub width_read : (k : ℕ) → get_or widths k 0 ≡ (greatest_at k + (256 - least_at k)) % 256
width_read k = get_or-map width_of fields k []

-- A byte lies in its range exactly when it is no further above the least value than the greatest is, by the columns.
pub in_columns : (k b : ℕ) → b < 256 → leb ((b + (256 - get_or leasts k 0)) % 256) (get_or widths k 0) ≡ in_range k b
unfolding in_row
in_columns k b h =
    let bytes = fields_rule.bytes k in
    rw (least_read k, width_read k) (sym (between_width (least_at k) (greatest_at k) b _ _ bytes.0 bytes.1 h (omega arith) (omega arith) refl))

only_zero : (b : ℕ) → eqb b 0 ≡ leb b 0
only_zero b = grind (arith, nat_tests)

-- Past the table it is the byte 0 alone.
pub in_range_past : (k b : ℕ) → 134 ≤ k → b < 256 → eqb b 0 ≡ in_range k b
unfolding in_row
in_range_past k b h l =
    let bounds = past k h in
    rw (bounds.0, bounds.1, only_zero) (sym (between_width 0 0 b b 0 (omega arith) (omega arith) l l (omega arith) refl))
