-- The three bytes of a bus have the same ranges on every bus, those of bus 0, which one test of the ten shows.
use Rattle.std.proofs.Common.{◌≡◌, ℕ, zero, suc, ◌+◌, ◌*◌, ◌<◌, ◌≤◌, Bool, true, ◌&&◌, T, eqb, ltb, leb, sym, refl, ◌∙◌, arith, eqb→eq, ltb→lt, leb→le}
use Rattle.ranges.specs.Ranges.{least_in, greatest_in, in_row}
use Rattle.ranges.proofs.Below.{parts, each, at}
use Rattle.ranges.proofs.Between.{Lies, plain, positive, negative, lies}
use Rattle.fields.specs.Fields.{fields, least_at, greatest_at, in_range}
use Rattle.fields.specs.code.Lookups.{bus_table}

-- Two places have the same bounds.
abbrev alike : ℕ → ℕ → Bool
alike k m = eqb (least_at k) (least_at m) && eqb (greatest_at k) (greatest_at m)

abbrev bus_alike : ℕ → Bool
bus_alike b = each (λ j. alike (104 + 3 * b + j) (104 + j)) 3

all_buses : T (each bus_alike 10)
unfolding fields
all_buses = tt

-- Byte j of bus b has the bounds of byte j of bus 0.
bus_bounds : (b j : ℕ) → b ≤ 9 → j < 3 → (least_at (104 + 3 * b + j) ≡ least_at (104 + j)) × (greatest_at (104 + 3 * b + j) ≡ greatest_at (104 + j))
bus_bounds b j h l =
    let k = 104 + 3 * b + j in
    let t = at (λ j. alike (104 + 3 * b + j) (104 + j)) 3 (at bus_alike 10 all_buses b (omega arith)) j l in
    let q = parts (eqb (least_at k) (least_at (104 + j))) (eqb (greatest_at k) (greatest_at (104 + j))) t in
    (eqb→eq (least_at k) (least_at (104 + j)) q.0, eqb→eq (greatest_at k) (greatest_at (104 + j)) q.1)

-- So it has its range.
pub bus_range : (b j x : ℕ) → b ≤ 9 → j < 3 → in_range (104 + 3 * b + j) x ≡ in_range (104 + j) x
unfolding in_row
bus_range b j x h l = let q = bus_bounds b j h l in rw (q.0, q.1)

-- The same of the rows of bus 0 alone.
row_of : (j : ℕ) → j < 3 → (least_in bus_table j ≡ least_at (104 + j)) × (greatest_in bus_table j ≡ greatest_at (104 + j))
unfolding fields
row_of zero l = (refl, refl)
row_of (suc zero) l = (refl, refl)
row_of (suc (suc zero)) l = (refl, refl)
row_of (suc (suc (suc j))) l = absurd (omega arith)

pub bus_rows_hold : (b : ℕ) → b ≤ 9 → (j : ℕ) → j < 3
    → (least_in bus_table j ≡ least_at (104 + 3 * b + j)) × (greatest_in bus_table j ≡ greatest_at (104 + 3 * b + j))
bus_rows_hold b h j l =
    let q = bus_bounds b j h l in
    let r = row_of j l in
    (r.0 ∙ sym q.0, r.1 ∙ sym q.1)

below : (k x : ℕ) → T (leb (least_at k) (greatest_at k) && ltb (greatest_at k) 128) → in_range k x ≡ true → x < 128
unfolding in_row
below k x t e =
    let q = parts (leb (least_at k) (greatest_at k)) (ltb (greatest_at k) 128) t in
    go (leb→le _ _ q.0) (ltb→lt _ _ q.1) (lies (least_at k) (greatest_at k) x e)
  where
    go : least_at k ≤ greatest_at k → greatest_at k < 128 → Lies (least_at k) (greatest_at k) x → x < 128
    go up small (plain l₁ l₂ l₃ l₄) = omega arith
    go up small (negative l₁ l₂ l₃) = absurd (omega arith)
    go up small (positive l₁ l₂ l₃) = omega arith

-- An accepted source is below 128.
pub source_below : (b s : ℕ) → b ≤ 9 → in_range (104 + 3 * b) s ≡ true → s < 128
unfolding fields
source_below b s h e =
    let place : 104 + 3 * b + 0 ≡ 104 + 3 * b = omega arith in
    below 104 s tt (sym (rw place at (bus_range b 0 s h (omega arith))) ∙ e)

-- So is an accepted destination.
pub destination_below : (b d : ℕ) → b ≤ 9 → in_range (106 + 3 * b) d ≡ true → d < 128
unfolding fields
destination_below b d h e =
    let place : 104 + 3 * b + 2 ≡ 106 + 3 * b = omega arith in
    below 106 d tt (sym (rw place at (bus_range b 2 d h (omega arith))) ∙ e)
