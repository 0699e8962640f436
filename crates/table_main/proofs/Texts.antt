-- The text of what a lookup answers, and the lines of the table place by place.
use mathlib.Core.Path.{◌≡◌, refl}
use mathlib.Core.List.{List, ◌++◌, append_assoc, append-nil}
use mathlib.Core.Option.{Option, none, some}
use Prim.Native.Nat.{ℕ, zero, suc, ◌+◌}
use native.Mathlib.Nat.{add-zero}
use native.Mathlib.Omega.{arith}
use Rattle.std.specs.Prelude.{Option as Maybe, Some, None}
use Rattle.text.specs.Text.{ascii, followed}
use Rattle.fields.specs.code.Lookups.{found_parameter}
use Rattle.fields.specs.declared.Parameter.{Parameter}
use Rattle.table_main.specs.Table.{parameter_text, table_row, table_rows}

abbrev pub found_text : Maybe Parameter → List ℕ
found_text (Some p) = followed p.0 0x20
found_text None = ascii "- "

pub text_found : (o : Option ℕ) (f : Maybe Parameter) → f ≡ found_parameter o → parameter_text o ≡ found_text f
text_found o f e = rw e (by_answer o)
  where
    by_answer : (o : Option ℕ) → parameter_text o ≡ found_text (found_parameter o)
    by_answer none = refl
    by_answer (some n) = refl

-- The lines of one place more: those before it, and its own.
pub rows_more : (n k : ℕ) → table_rows (n + 1) k ≡ table_rows n k ++ table_row (k + n)
unfolding table_rows
rows_more zero k = rw (add-zero k) (append-nil (table_row k))
rows_more (suc n) k =
    let next : suc n + 1 ≡ suc (n + 1) = omega arith in
    let place : suc k + n ≡ k + suc n = omega arith in
    rw (next, rows_more n (suc k), place) (simp append_assoc)
