-- The rule of the table of a split holds: its parts, each shown by one test over its rows, by the lemmas of every table.
use mathlib.Core.Path.{◌≡◌, refl}
use Prim.Native.Nat.{ℕ, ◌+◌, ◌-◌, ◌*◌, ◌≤◌, ◌<◌}
use native.Mathlib.Omega.{arith}
use lib.Dec.{T, eqb, eqb→eq}
use lib.IntN.{ℤ}
use lib.ListN.{length}
use Rattle.ranges.specs.Ranges.{parameter_in}
use Rattle.ranges.specs.Values.{plus, value_of, value_by}
use Rattle.ranges.specs.promises.Tables.{Goes}
use Rattle.ranges.proofs.Below.{each, at}
use Rattle.ranges.proofs.Runs.{narrow_row, rows_apart}
use Rattle.ranges.proofs.Tested.{tested_by}
use Rattle.ranges.proofs.Tables.{right, table_rule, signs_right, signs, each_goes}
use Rattle.splits.specs.Splits.{split_fields}
use Rattle.splits.specs.promises.Rule.{has_sign, Rule}

-- Every range spans at most 128 bytes.
all_narrow : T (each (narrow_row split_fields) (length split_fields))
unfolding split_fields
all_narrow = tt

all_right : T (right split_fields)
unfolding split_fields
all_right = tt

all_signs : T (signs_right split_fields has_sign)
unfolding split_fields
all_signs = tt

all_numbered : T (each (λ i. eqb (parameter_in split_fields (10 + i)) i) 8)
unfolding split_fields
all_numbered = tt

all_unnumbered : T (each (λ k. eqb (parameter_in split_fields k) 255) 10)
unfolding split_fields
all_unnumbered = tt

-- The n places from a on, by one test of them.
from : (least greatest : ℤ) (a n : ℕ) → ((i : ℕ) → i < n → Goes split_fields (a + 1 * i) least greatest) → (k : ℕ) → a ≤ k → k < a + n
    → Goes split_fields k least greatest
from least greatest a n g k l h = let here : a + 1 * (k - a) ≡ k = omega arith in rw here at (g (k - a) (omega arith))

numbered : (k : ℕ) → 10 ≤ k → k < 18 → parameter_in split_fields k ≡ k - 10
numbered k l h =
    let here : 10 + (k - 10) ≡ k = omega arith in
    rw here at (eqb→eq (parameter_in split_fields (10 + (k - 10))) (k - 10) (at (λ i. eqb (parameter_in split_fields (10 + i)) i) 8 all_numbered (k - 10) (omega arith)))

pub rule : Rule
unfolding split_fields value_of value_by
rule = record {
  rows = refl;
  of_tables = table_rule split_fields all_right;
  name = λ k h. from (plus 0) (plus 63) 0 6 (each_goes split_fields _ _ 0 1 6 tt) k (omega arith) h;
  not_used = from (plus 0) (plus 63) 6 2 (each_goes split_fields _ _ 6 1 2 tt);
  patch_number = from (plus 0) (plus 127) 8 2 (each_goes split_fields _ _ 8 1 2 tt);
  limit = each_goes split_fields _ _ 10 3 2 tt;
  transpose = each_goes split_fields _ _ 11 3 2 tt;
  midi_out = each_goes split_fields _ _ 12 3 2 tt;
  balance = (refl, refl);
  voices = (refl, refl);
  numbered = numbered;
  unnumbered = λ k h. eqb→eq (parameter_in split_fields k) 255 (at (λ k. eqb (parameter_in split_fields k) 255) 10 all_unnumbered k h);
  signs = signs split_fields has_sign all_signs;
  apart = rows_apart split_fields all_narrow;
  tests = tested_by 18 split_fields;
}
