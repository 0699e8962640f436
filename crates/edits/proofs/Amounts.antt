-- The 128 amounts of seven bits, extended, lie inside, which one test of them all shows. So the former row for 14 never decides.
use mathlib.Core.Path.{◌≡◌, refl, ap, ◌∙◌}
use mathlib.Core.Bool.{Bool, true, ◌&&◌, ◌||◌}
use mathlib.Core.List.{List, [], ◌∷◌, ◌++◌}
use mathlib.Core.Option.{none}
use Prim.Native.Nat.{ℕ, ◌+◌, ◌*◌, ◌≤◌}
use native.Mathlib.Omega.{arith}
use lib.Dec.{T, ltb}
use borrow.Author.Tests.{ltb-false, ne_eqb}
use Rattle.answers.specs.Table.{Row, row, number_of, says, Verdict, unless, first}
use Rattle.answers.proofs.Rows.{needless, row_silent}
use Rattle.ranges.specs.Ranges.{between, in_row}
use Rattle.ranges.specs.Values.{plus, minus, value_of, from_to}
use Rattle.ranges.proofs.Below.{parts, holds, each, at}
use Rattle.fields.specs.Fields.{fields, in_range}
use Rattle.fields.proofs.Buses.{bus_range}
use Rattle.edits.specs.Edits.{extended, byte_rows, bus_rows}
use Rattle.edits.specs.promises.Amounts.{AmountsInside}
use Rattle.edits.specs.promises.Withdrawn.{row14, with14, No8, SameTests}
use Rattle.edits.proofs.Tests.{neither}

-- As a value, and by the range of bus 0.
abbrev valued : ℕ → Bool
valued a = from_to (minus 64) (plus 63) (value_of (extended a))

abbrev ranged : ℕ → Bool
ranged a = in_range 105 (extended a)

all_amounts : T (each (λ a. valued a && ranged a) 128)
unfolding extended value_of fields between in_row
all_amounts = tt

inside : (a : ℕ) → a ≤ 127 → (valued a ≡ true) × (ranged a ≡ true)
inside a h =
    let t = parts (valued a) (ranged a) (at (λ a. valued a && ranged a) 128 all_amounts a (omega arith)) in
    (holds (valued a) t.0, holds (ranged a) t.1)

pub amounts_inside : AmountsInside
amounts_inside = record {
  value = λ a h. (inside a h).0;
  range = λ b a k h.
      let place : 104 + 3 * b + 1 ≡ 105 + 3 * b = omega arith in
      rw place at (bus_range b 1 (extended a) k (omega arith)) ∙ (inside a h).1;
}

-- So the former row for 14 says nothing where 8 does not.
row_silent_14 : (b a : ℕ) → says (row 8 (ltb 9 b || ltb 127 a)) ≡ none → says (row14 a) ≡ none
row_silent_14 b a q = rw (inside a (ltb-false 127 a (neither (ltb 9 b) (ltb 127 a) (row_silent 8 (ltb 9 b || ltb 127 a) q)).1)).1

-- It may stand behind it or not, whatever rows stand before them.
pub same_tests : SameTests
unfolding bus_rows
same_tests = record { former = λ b s a d. refl; same = λ before w b s a d behind v. go b s a d behind v before w }
  where
    go : (b s a d : ℕ) (behind : List Row) (v : Verdict) (before : List Row) → No8 before
        → let rows = before ++ (bus_rows b s a d ++ behind) in first (with14 a rows) v ≡ first rows v
    go b s a d behind v [] w =
        needless (row 8 (ltb 9 b || ltb 127 a) ∷ []) (row14 a) (byte_rows b s (extended a) d ++ behind) v (λ q. row_silent_14 b a q.0)
    go b s a d behind v (r ∷ before) w = rw (ne_eqb (number_of r) 8 w.0) (ap (unless (says r)) (go b s a d behind v before w.1))
