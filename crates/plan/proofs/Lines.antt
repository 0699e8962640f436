-- What is put for both outputs; the line for a part; and how long the lines can be.
use mathlib.Core.Path.{◌≡◌, refl, ◌∙◌}
use mathlib.Core.Bool.{Bool, true, false, cond}
use mathlib.Core.List.{List, [], ◌∷◌, ◌++◌}
use Prim.Native.Nat.{ℕ, ◌+◌, ◌≤◌}
use native.Mathlib.Omega.{arith}
use lib.ListN.{length, get_or, length-append}
use Rattle.fields.specs.Fields.{parameter_at, value_at}
use Rattle.patch.specs.Patch.{source_at, amount_at, destination_at}
use Rattle.text.specs.Text.{ascii, followed, Gains}
use Rattle.text.specs.declared.Text.{Text}
use Rattle.text.proofs.Spaced.{followed_most, signed_most}
use Rattle.text.proofs.Puts.{gains_none, gains_then}
use Rattle.edit_lists.specs.Plan.{is_parameter, bus_at, parts_from, parts, differing}
use Rattle.edit_lists.specs.code.Left.{IsPart}
use Rattle.edit_lists.proofs.Left.{sum_of, most_changes}
use Rattle.plan.specs.Said.{said, shown_at, parameter_line, bus_values, bus_line, change_line, lines_for, change_lines}
use Rattle.plan.specs.code.Written.{PutsBoth}

-- What goes to the standard output and, behind it, what goes to the standard error.
pub both : {o v : List ℕ} {a b c : Text} {between : ℕ} → between ≡ b.end → Gains o a b → Gains v b c → PutsBoth (said o v) a c between
both e g h = record { out = e ∙ g.puts.ends; gains = gains_then g h; ordered = omega (arith, h.puts.ends) }

-- What goes to the standard error alone.
pub err_alone : {v : List ℕ} {a c : Text} {between : ℕ} → between ≡ a.end → Gains v a c → PutsBoth (said [] v) a c between
err_alone {v} {a} e h = both e (gains_none a) h

-- The line for the first of some parts comes first.
pub first_line : (a b : List ℕ) (k : ℕ) (ks : List ℕ) → lines_for a b (k ∷ ks) ≡ change_line a b k ++ lines_for a b ks
unfolding lines_for
first_line a b k ks = refl

pub no_lines : (a b : List ℕ) → lines_for a b [] ≡ []
unfolding lines_for
no_lines a b = refl

pub all_lines_for : (a b : List ℕ) → lines_for a b (differing parts a b) ≡ change_lines a b
unfolding change_lines
all_lines_for a b = refl

-- A text has at most so many bytes; two of them joined.
pub record Most (w : List ℕ) (n : ℕ) : Type 0 where
  pub bytes : length w ≤ n

pub joined : {v w : List ℕ} {m n : ℕ} → Most v m → Most w n → Most (v ++ w) (m + n)
joined {v} {w} p q = record { bytes = omega (arith, length-append v w, p.bytes, q.bytes) }

-- No line is longer than its numbers can be.
abbrev line_most : ℕ → ℕ
line_most k = cond (is_parameter k) 96 178

all_lines : sum_of line_most parts ≡ 10996
unfolding sum_of parts parts_from
all_lines = refl

number_most : (n : ℕ) → Most (followed n 0x20) 21
number_most n = record { bytes = followed_most n 0x20 }

shown_most : (p : List ℕ) (k behind : ℕ) → Most (shown_at p k behind) 22
shown_most p k behind = record { bytes = signed_most (value_at k (get_or p k 0)) behind }

values_most : (p : List ℕ) (c behind : ℕ) → Most (bus_values p c behind) 66
values_most p c behind = joined (shown_most p (source_at c) 0x20) (joined (shown_most p (amount_at c) 0x20) (shown_most p (destination_at c) behind))

parameter_word : Most (ascii "parameter ") 10
parameter_word = record { bytes = unfold ascii in (omega arith) }

bus_word : Most (ascii "bus ") 4
bus_word = record { bytes = unfold ascii in (omega arith) }

module _ (a b : List ℕ) where
  line_most_holds : (k : ℕ) → Most (change_line a b k) (line_most k)
  line_most_holds k = go (is_parameter k)
    where
      go : (t : Bool) → Most (cond t (parameter_line a b k) (bus_line a b (bus_at k))) (cond t 96 178)
      go true = joined (number_most k) (joined parameter_word (joined (number_most (parameter_at k)) (joined (shown_most a k 0x20) (shown_most b k 0x0A))))
      go false =
          let c = bus_at k in
          joined (number_most (source_at c)) (joined bus_word (joined (number_most c) (joined (values_most a c 0x20) (values_most b c 0x0A))))

  line_adds : (k : ℕ) (ks : List ℕ) → IsPart k → length (lines_for a b (k ∷ ks)) ≤ line_most k + length (lines_for a b ks)
  unfolding lines_for
  line_adds k ks p = rw length-append (omega (arith, (line_most_holds k).bytes))

  pub lines_most : length (change_lines a b) ≤ 10996
  unfolding change_lines lines_for
  lines_most = omega (arith, all_lines, most_changes (lines_for a b) line_most line_adds a b)
