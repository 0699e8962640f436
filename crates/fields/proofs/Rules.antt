-- The rules of the whole table. Each is one test, computed over the rows or the parameter numbers, and what it says at each.
use Rattle.std.proofs.Common.{◌≡◌, ℕ, ◌<◌, ◌≤◌, Bool, true, false, cond, not, ◌&&◌, T, eqb, ltb, leb, [], length, sym, refl, ap, ◌∙◌, subst, arith, eqb→eq, ltb→lt, leb→le, T_not, ltb-false, ltb-true, le-ltb, lt-ltb, ne_eqb, le-leb, leb-false, leb-true}
use mathlib.Core.Option.{Option, none, some}
use lib.ListN.{get_or-eq_default}
use borrow.Author.Tests.{lt-leb}
use Rattle.ranges.specs.Ranges.{between, in_row}
use Rattle.ranges.specs.promises.Tables.{TableRule, Apart}
use Rattle.ranges.proofs.Below.{parts, holds, each, at}
use Rattle.ranges.proofs.Between.{Lies, plain, positive, negative, lies}
use Rattle.ranges.proofs.Runs.{narrow_row, rows_apart}
use Rattle.ranges.proofs.Tables.{right, table_rule}
use Rattle.fields.specs.Fields.{fields, parameter_at, least_at, greatest_at, in_range, search_from, place_of, parameter_of}
use Rattle.fields.specs.promises.Rule.{unused}

pub rows : length fields ≡ 134
unfolding fields
rows = refl

-- The rows are right: places, bounds, signs.
all_right : T (right fields)
unfolding fields
all_right = tt

pub fields_rule : TableRule fields
fields_rule = table_rule fields all_right

-- Past the table there is nothing but 0.
pub past : (k : ℕ) → 134 ≤ k → (least_at k ≡ 0) × (greatest_at k ≡ 0)
past k h = let out : length fields ≤ k = omega (arith, rows) in rw (get_or-eq_default fields [] out) (refl, refl)

abbrev is_at : Option ℕ → ℕ → Bool
is_at none k = false
is_at (some m) k = eqb m k

is_some : (o : Option ℕ) (k : ℕ) → T (is_at o k) → o ≡ some k
is_some none k t = absurd t
is_some (some m) k t = ap some (eqb→eq m k t)

abbrev parameter_right : ℕ → Bool
parameter_right k = cond (leb 8 k && ltb k 104) (ltb (parameter_at k) 100 && is_at (place_of (parameter_at k)) k) (eqb (parameter_at k) 255)

all_parameters : T (each parameter_right 134)
unfolding fields place_of search_from
all_parameters = tt

edited : (k : ℕ) → 8 ≤ k → k < 104 → T (ltb (parameter_at k) 100) × T (is_at (place_of (parameter_at k)) k)
edited k l h =
    let t = simp (le-leb _ _ l, lt-ltb _ _ h) at (at parameter_right 134 all_parameters k (omega arith)) in
    parts (ltb (parameter_at k) 100) (is_at (place_of (parameter_at k)) k) t

-- The parameter of each place 8..103 leads back to the place, so no two of them have the same.
pub parameter_place : (k : ℕ) → 8 ≤ k → k < 104 → place_of (parameter_at k) ≡ some k
parameter_place k l h = is_some (place_of (parameter_at k)) k (edited k l h).1

-- Parameters are 0..99.
pub parameter_number : (k : ℕ) → 8 ≤ k → k < 104 → parameter_at k < 100
parameter_number k l h = ltb→lt (parameter_at k) 100 (edited k l h).0

-- A place of the table has the parameter of its row, where that is not 255.
pub parameter_here : (k : ℕ) → k < 134 → (parameter_at k ≡ 255 → ⊥) → parameter_of k ≡ some (parameter_at k)
unfolding parameter_of
parameter_here k h d = simp (lt-leb 134 k h, ne_eqb _ _ d)

-- Each place 8..103 has a parameter.
pub parameter_known : (k : ℕ) → 8 ≤ k → k < 104 → parameter_of k ≡ some (parameter_at k)
parameter_known k l h =
    let n = parameter_number k l h in
    parameter_here k (omega arith) (λ e. omega arith)

unnumbered : (k : ℕ) → k < 134 → (leb 8 k && ltb k 104) ≡ false → parameter_of k ≡ none
unfolding parameter_of
unnumbered k h e =
    let t = simp e at (at parameter_right 134 all_parameters k h) in
    simp (lt-leb 134 k (omega arith), holds (eqb (parameter_at k) 255) t)

-- The name's places have no parameter.
pub name_unnumbered : (k : ℕ) → k < 8 → parameter_of k ≡ none
name_unnumbered k h = unnumbered k (omega arith) (simp (lt-leb 8 k h))

-- No place past the table has one.
pub past_unnumbered : (k : ℕ) → 134 ≤ k → parameter_of k ≡ none
unfolding parameter_of
past_unnumbered k h = simp (le-leb 134 k h)

-- The buses' places have none, nor has any place past them.
pub bus_unnumbered : (k : ℕ) → 104 ≤ k → parameter_of k ≡ none
bus_unnumbered k l = go (ltb k 134) refl
  where
    go : (t : Bool) → ltb k 134 ≡ t → parameter_of k ≡ none
    go true q = unnumbered k (ltb-true k 134 q) (simp (le-leb 8 k (omega arith), le-ltb k 104 l))
    go false q = past_unnumbered k (ltb-false k 134 q)

abbrev sits : ℕ → Option ℕ → Bool
sits n none = unused n
sits n (some k) = not (unused n) && (leb 8 k && (ltb k 104 && eqb (parameter_at k) n))

abbrev number_right : ℕ → Bool
number_right n = sits n (place_of n)

all_numbers : T (each number_right 100)
unfolding fields place_of search_from
all_numbers = tt

numbers : (n : ℕ) (o : Option ℕ) → n < 100 → place_of n ≡ o → T (sits n o)
numbers n o h e = subst (λ (x : Option ℕ). T (sits n x)) e (at number_right 100 all_numbers n h)

found_number : (n k : ℕ) → place_of n ≡ some k → n < 100
unfolding place_of
found_number n k e = go (ltb 99 n) refl e
  where
    go : (t : Bool) → ltb 99 n ≡ t → cond t none (search_from 134 0 n) ≡ some k → n < 100
    go true q e = let z : ◌≡◌ {A = ℕ} 0 1 = cc in absurd (omega arith)
    go false q e = let h = ltb-false 99 n q in omega arith

-- A parameter number and its byte place.
pub record Sits (n k : ℕ) : Type 0 where
  pub place : place_of n ≡ some k
  pub low : 8 ≤ k
  pub high : k < 104
  pub parameter : parameter_at k ≡ n

-- A place that is found is one of 8..103 and has the number asked for.
pub place_is_found : (n k : ℕ) → place_of n ≡ some k → Sits n k
place_is_found n k e =
    let a = parts (not (unused n)) (leb 8 k && (ltb k 104 && eqb (parameter_at k) n)) (numbers n (some k) (found_number n k e) e) in
    let b = parts (leb 8 k) (ltb k 104 && eqb (parameter_at k) n) a.1 in
    let c = parts (ltb k 104) (eqb (parameter_at k) n) b.1 in
    record { place = e; low = leb→le 8 k b.0; high = ltb→lt k 104 c.0; parameter = eqb→eq (parameter_at k) n c.1 }

-- 39, 49, 89 and 99 have no byte.
pub unused_nowhere : (n : ℕ) → unused n ≡ true → place_of n ≡ none
unused_nowhere n u = go (place_of n) refl
  where
    go : (o : Option ℕ) → place_of n ≡ o → place_of n ≡ none
    go none e = e
    go (some k) e =
        let a = parts (not (unused n)) (leb 8 k && (ltb k 104 && eqb (parameter_at k) n)) (numbers n (some k) (found_number n k e) e) in
        absurd (T_not (unused n) a.0 (subst T (sym u) tt))

-- Every other number of 0..99 has one, at a place 8..103 with that parameter.
pub number_place : (n : ℕ) → n < 100 → unused n ≡ false → (k : ℕ) × Sits n k
number_place n h u = go (place_of n) refl
  where
    go : (o : Option ℕ) → place_of n ≡ o → (k : ℕ) × Sits n k
    go none e = absurd (subst T u (numbers n none h e))
    go (some k) e = (k, place_is_found n k e)

-- The parameter of a place that is found is the number asked for.
pub place_then_parameter : (n k : ℕ) → place_of n ≡ some k → parameter_of k ≡ some n
place_then_parameter n k e =
    let s = place_is_found n k e in
    parameter_known k s.low s.high ∙ ap some s.parameter

-- The place of a parameter that is found is the place asked for: the two lookups are inverse to each other.
pub parameter_then_place : (k n : ℕ) → parameter_of k ≡ some n → place_of n ≡ some k
parameter_then_place k n e = go (leb 8 k) (ltb k 104) refl refl
  where
    go : (t u : Bool) → leb 8 k ≡ t → ltb k 104 ≡ u → place_of n ≡ some k
    go true true q r =
        let l = leb-true 8 k q in
        let h = ltb-true k 104 r in
        let f = parameter_known k l h in
        let same : parameter_at k ≡ n = cc in
        rw same at (parameter_place k l h)
    go true false q r = let f = bus_unnumbered k (ltb-false k 104 r) in let z : ◌≡◌ {A = ℕ} 0 1 = cc in absurd (omega arith)
    go false u q r = let f = name_unnumbered k (leb-false 8 k q) in let z : ◌≡◌ {A = ℕ} 0 1 = cc in absurd (omega arith)

-- Every range spans at most 128 bytes.
all_narrow : T (each (narrow_row fields) (length fields))
unfolding fields
all_narrow = tt

-- No place accepts both a byte and the one 128 higher.
pub apart : Apart fields
apart = rows_apart fields all_narrow

abbrev name_right : ℕ → Bool
name_right k = eqb (least_at k) 0 && eqb (greatest_at k) 63

all_names : T (each name_right 8)
unfolding fields
all_names = tt

-- The name's bytes are 0..63.
pub name_range : (k : ℕ) → k < 8 → (least_at k ≡ 0) × (greatest_at k ≡ 63)
name_range k h =
    let t = parts (eqb (least_at k) 0) (eqb (greatest_at k) 63) (at name_right 8 all_names k h) in
    (eqb→eq (least_at k) 0 t.0, eqb→eq (greatest_at k) 63 t.1)

-- A place of the name accepts every byte of 0..63.
pub name_accepts : (k b : ℕ) → k < 8 → b ≤ 63 → in_range k b ≡ true
unfolding in_row between
name_accepts k b h l =
    let r = name_range k h in
    rw (r.0, r.1) (simp (lt-ltb b 256 (omega arith), le-leb 0 b (omega arith), le-leb b 63 l))

-- It accepts no other.
pub name_byte : (k b : ℕ) → k < 8 → in_range k b ≡ true → b ≤ 63
unfolding in_row
name_byte k b h e =
    let r = name_range k h in
    go (lies 0 63 b (rw (r.0, r.1) at e))
  where
    go : Lies 0 63 b → b ≤ 63
    go (plain l₁ l₂ l₃ l₄) = l₃
    go (negative l₁ l₂ l₃) = omega arith
    go (positive l₁ l₂ l₃) = l₂
