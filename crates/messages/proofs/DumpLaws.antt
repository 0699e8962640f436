-- What a dump of each kind comes to: which bytes are its data and its sum, and that it is tested by its length, its number, its data and its sum.
-- From that, the dump that our writer writes is accepted, and a dump of another length is refused by 7.
use mathlib.Core.Path.{◌≡◌, refl, sym, ◌∙◌}
use mathlib.Core.Bool.{false, not}
use mathlib.Core.List.{List, [], ◌∷◌, ◌++◌, append_assoc}
use Prim.Native.Nat.{ℕ, ◌+◌, ◌*◌, ◌<◌}
use native.Mathlib.Nat.{zero-add}
use native.Mathlib.Omega.{arith}
use lib.Dec.{eqb}
use lib.ListN.{length, length-append}
use lib.Seq.{take_at, get_or_at, get_or-drop}
use borrow.Author.Tests.{eq-eqb, ne_eqb}
use Rattle.answers.specs.declared.Outcome.{Outcome}
use Rattle.answers.specs.Lists.{All}
use Rattle.answers.specs.Table.{row, Verdict, done, refused, first, outcome, answer_of}
use Rattle.answers.proofs.Rows.{Refusals, first_passed, zero_silent, row_silent, row_at_silent, row_equal}
use Rattle.answers.specs.promises.Decides.{Silent}
use Rattle.nibbles.specs.Nibbles.{nibbles, pack, sum, first_wide}
use Rattle.nibbles.proofs.Laws.{length_nibbles, pack_nibbles, nibbles_narrow, not_wide, wide_none, wide_behind}
use Rattle.messages.specs.Kinds.{Packed, Dump, of_dump, Filed, size_of}
use Rattle.messages.specs.Judge.{data_of, packed_of, sum_of, data_rows, misnumbered, number_in, packed_rows, sent_rows, dump_rows, judge}
use Rattle.messages.specs.Layout.{message_of, dump}
use Rattle.messages.proofs.Filed.{filed_sized}
use Rattle.messages.proofs.Numbers.{packed_refusals}

-- The number of bytes of a message, the n and w behind its opcode.
message_length : (op n : ℕ) (w : List ℕ) → length (message_of op (n ∷ w)) ≡ 6 + length w
message_length op n w = omega (arith, length-append w (0xF7 ∷ []))

data_is : (size op n : ℕ) (d : List ℕ) (s : ℕ) → length d ≡ 2 * size → data_of size (message_of op (n ∷ (d ++ (s ∷ [])))) ≡ d
unfolding data_of
data_is size op n d s l = rw (append_assoc d (s ∷ []) (0xF7 ∷ [])) (take_at d (s ∷ 0xF7 ∷ []) (2 * size) l)

sum_is : (size op n : ℕ) (d : List ℕ) (s : ℕ) → length d ≡ 2 * size → sum_of size (message_of op (n ∷ (d ++ (s ∷ [])))) ≡ s
unfolding sum_of
sum_is size op n d s l =
    sym (get_or-drop 5 (message_of op (n ∷ (d ++ (s ∷ [])))) (2 * size) 0)
    ∙ rw (append_assoc d (s ∷ []) (0xF7 ∷ [])) (get_or_at d s (0xF7 ∷ []) 0 (2 * size) l)

abbrev pub size : Dump → ℕ
size k = size_of k.packed

-- The record of a dump with the byte n behind its opcode and the packed bytes p.
abbrev pub dump_record : Dump → ℕ → List ℕ → Verdict
dump_record k n p = done k.opcode (number_in k.behind n) p

pub dump_refusals : (k : Dump) (n : ℕ) (d : List ℕ) (s : ℕ) → Refusals (dump_rows k n d s)
unfolding data_rows
dump_refusals k n d s = (omega arith, (omega arith, (omega arith, packed_refusals k.packed (pack d))))

-- The data bytes d and the sum s behind them, by what they pack: refused by the first byte above 15, by the sum, or left to the packed bytes.
module _ (q : Packed) where
  abbrev pub RefusedBy : List ℕ → ℕ → Outcome → Type 0
  RefusedBy d s o = (v : Verdict) → first (sent_rows q d s) v ≡ refused o

  pub too_wide : (u : List ℕ) (x : ℕ) (w : List ℕ) (s : ℕ) → All (λ b. b < 16) u → 15 < x → RefusedBy (u ++ x ∷ w) s (outcome 9 (length u))
  unfolding data_rows
  too_wide u x w s a h v = rw (wide_behind 0 u x w a h, zero-add (length u))

  pub wrong_sum : (d : List ℕ) (s : ℕ) → All (λ b. b < 16) d → (s ≡ sum (pack d) → ⊥) → RefusedBy d s (outcome 10 0)
  unfolding data_rows
  wrong_sum d s a n v = rw (not_wide 0 d a, ne_eqb s (sum (pack d)) n)

  pub right_sum : (d : List ℕ) (s : ℕ) → All (λ b. b < 16) d → s ≡ sum (pack d) → (v : Verdict) → first (sent_rows q d s) v ≡ first (packed_rows q (pack d)) v
  unfolding data_rows
  right_sum d s a e v = rw (not_wide 0 d a, eq-eqb s (sum (pack d)) e)

-- Nibbles for data bytes, their sum, and packed bytes that pass the tests.
pub record Passed (k : Dump) (n : ℕ) (d : List ℕ) (s : ℕ) : Type 0 where
  pub number : misnumbered k.behind n ≡ false
  pub narrow : All (λ b. b < 16) d
  pub summed : s ≡ sum (pack d)
  pub packed : Silent (packed_rows k.packed (pack d))

pub rows_passed : (k : Dump) (n : ℕ) (d : List ℕ) (s : ℕ) → Silent (dump_rows k n d s) → Passed k n d s
unfolding data_rows
rows_passed k n d s q = record {
  number = row_silent 8 (misnumbered k.behind n) q.0;
  narrow = wide_none 0 d (row_at_silent 9 (first_wide d) q.1.0);
  summed = row_equal 10 s (sum (pack d)) q.1.1.0;
  packed = q.1.1.1;
}

module _ (k : Dump) (filed : Filed (of_dump k)) (n : ℕ) where
  dump_judged : (w : List ℕ) (m : List ℕ) → m ≡ message_of k.opcode (n ∷ w)
      → judge m
      ≡ first (row 7 (not (eqb (length m) (7 + 2 * size k))) ∷ dump_rows k n (data_of (size k) m) (sum_of (size k) m)) (dump_record k n (packed_of (size k) m))
  unfolding judge
  dump_judged w m e = rw (e, filed, (filed_sized (of_dump k) filed).0)

  -- A dump of another length is refused by 7.
  pub wrong_length : (w : List ℕ) → (length w ≡ 1 + 2 * size k → ⊥) → judge (message_of k.opcode (n ∷ w)) ≡ refused (outcome 7 0)
  wrong_length w h =
      let m = message_of k.opcode (n ∷ w) in
      rw (dump_judged w m refl, ne_eqb (length m) (7 + 2 * size k) (λ e. h (omega (arith, message_length k.opcode n w))))

  -- A dump of the right length, with the data bytes d and the sum s, is tested by its rows.
  pub dump_tested : (d : List ℕ) (s : ℕ) → length d ≡ 2 * size k
      → judge (message_of k.opcode (n ∷ (d ++ (s ∷ [])))) ≡ first (dump_rows k n d s) (dump_record k n (pack d))
  unfolding packed_of
  dump_tested d s l =
      let m = message_of k.opcode (n ∷ (d ++ (s ∷ []))) in
      let right : length m ≡ 7 + 2 * size k = omega (arith, message_length k.opcode n (d ++ (s ∷ [])), length-append d (s ∷ [])) in
      let judged = dump_judged (d ++ (s ∷ [])) m refl in
      rw (judged, eq-eqb (length m) (7 + 2 * size k) right, data_is (size k) k.opcode n d s l, sum_is (size k) k.opcode n d s l)

  -- A dump as our writer writes it, of bytes that pass its tests, is accepted with these bytes.
  pub dump_accepted : (p : List ℕ) → misnumbered k.behind n ≡ false → length p ≡ size k → All (λ b. b < 256) p → Silent (packed_rows k.packed p)
      → judge (dump k.opcode n p) ≡ dump_record k n p
  unfolding dump data_rows
  dump_accepted p number l bytes passed =
      dump_tested (nibbles p) (sum p) (omega (arith, length_nibbles p))
      ∙ rw (number, not_wide 0 (nibbles p) (nibbles_narrow p bytes), pack_nibbles p, eq-eqb (sum p) (sum p) refl)
      (first_passed (packed_rows k.packed p) (dump_record k n p) passed)

  -- A dump that is accepted has passed its tests.
  pub dump_passed : (d : List ℕ) (s : ℕ) → length d ≡ 2 * size k → answer_of (judge (message_of k.opcode (n ∷ (d ++ (s ∷ []))))) ≡ 0 → Passed k n d s
  dump_passed d s l e =
      rows_passed k n d s (zero_silent (dump_rows k n d s) (dump_record k n (pack d)) (dump_refusals k n d s) (rw (dump_tested d s l) at e))
