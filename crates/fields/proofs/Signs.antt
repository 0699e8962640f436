-- The values of the signed amounts, of detune and of the name: one test of the rows of each. Which fields have a sign, and what every byte is with
-- and without one; what is told of a parameter's range.
use Rattle.std.proofs.Common.{◌≡◌, ℕ, ◌+◌, ◌-◌, ◌*◌, ◌<◌, ◌≤◌, Bool, true, ◌&&◌, T, length, ℤ, pos, negsuc, refl, ◌∙◌, arith, le-leb}
use mathlib.Core.Option.{some}
use lib.Signed.{le_z}
use Rattle.ranges.specs.Values.{plus, minus, value_of, value_by, from_to}
use Rattle.ranges.specs.promises.Tables.{Signs, Goes}
use Rattle.ranges.proofs.Tables.{signs_right, signs, each_goes}
use Rattle.fields.specs.Fields.{fields, least_at, greatest_at, in_range, value_at, place_of}
use Rattle.fields.specs.Parameters.{ranging}
use Rattle.fields.specs.promises.Rule.{has_sign, Reached}
use Rattle.fields.proofs.Rules.{rows, fields_rule, place_is_found}

both_true : (a b : Bool) → a ≡ true → b ≡ true → (a && b) ≡ true
both_true a b p q = rw (p, q)

le_self : (v : ℤ) → le_z v v ≡ true
le_self (pos n) = le-leb n n (omega arith)
le_self (negsuc n) = le-leb n n (omega arith)

pub amount_goes : (k : ℕ) → 86 ≤ k → k < 104 → Goes fields k (minus 64) (plus 63)
unfolding fields value_of value_by
amount_goes k l h =
    let here : 86 + 1 * (k - 86) ≡ k = omega arith in
    rw here at (each_goes fields (minus 64) (plus 63) 86 1 18 tt (k - 86) (omega arith))

pub detune_goes : Goes fields 19 (minus 32) (plus 31)
unfolding fields value_of value_by
detune_goes = (refl, refl)

pub name_goes : (k : ℕ) → k < 8 → Goes fields k (plus 0) (plus 63)
unfolding fields value_of value_by
name_goes k h = let here : 0 + 1 * k ≡ k = omega arith in rw here at (each_goes fields (plus 0) (plus 63) 0 1 8 tt k h)

-- One test of all rows: those that have a sign are the ones whose least byte is above the greatest.
all_signs : T (signs_right fields has_sign)
unfolding fields
all_signs = tt

pub field_signs : Signs fields has_sign
field_signs = signs fields has_sign all_signs

-- A parameter's range by its place.
pub ranged : (n k b : ℕ) → place_of n ≡ some k → b < 256 → let r = ranging n in in_range k b ≡ from_to r.least r.greatest (value_at k b)
unfolding ranging
ranged n k b e h = let l = (place_is_found n k e).high in rw e (fields_rule.with_sign k b (omega (arith, rows)) h)

pub reached : (n k : ℕ) → place_of n ≡ some k → let r = ranging n in Reached k r.least × Reached k r.greatest
unfolding ranging
reached n k e =
    let l = (place_is_found n k e).high in
    let inside : k < length fields = omega (arith, rows) in
    let bytes = fields_rule.bytes k in
    let ordered = fields_rule.ordered k inside in
    let least = fields_rule.with_sign k (least_at k) inside bytes.0 in
    let greatest = fields_rule.with_sign k (greatest_at k) inside bytes.1 in
    rw e (
      (least_at k, (least ∙ both_true _ _ (le_self (value_at k (least_at k))) ordered, refl)),
      (greatest_at k, (greatest ∙ both_true _ _ ordered (le_self (value_at k (greatest_at k))), refl)),
    )
