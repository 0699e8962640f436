-- What a message of a kind comes to, by the answer that its rows are given: the rows that the code tests are those of the kind, once the
-- length is right.
use mathlib.Core.Path.{◌≡◌, refl, sym, ap, ◌∙◌}
use mathlib.Core.Bool.{false}
use mathlib.Core.List.{List, [], ◌∷◌}
use Prim.Native.Nat.{ℕ, ◌+◌, ◌*◌, ◌≤◌}
use native.Mathlib.Omega.{arith}
use lib.Dec.{T}
use lib.ListN.{length, take, drop, get_or}
use borrow.Author.Tests.{eq-eqb, ne_eqb}
use Rattle.answers.specs.declared.Outcome.{Outcome}
use Rattle.answers.specs.Table.{Row, refused, first, outcome, four}
use Rattle.answers.specs.Effect.{tested}
use Rattle.answers.proofs.Rows.{Refusals, first_passed, first_stopped}
use Rattle.answers.proofs.Effects.{passed}
use Rattle.streams.specs.Bytes.{framed}
use Rattle.messages.specs.declared.kinds.Dump.{Dump}
use Rattle.messages.specs.declared.kinds.Kind.{Kind}
use Rattle.messages.specs.declared.kinds.Kind.TheVariants.{Dump as of_dump, Short as of_short}
use Rattle.messages.specs.declared.kinds.Short.{Short}
use Rattle.messages.specs.Kinds.{kind_of, opcode_of, size_of, count_of, length_of, is_unknown}
use Rattle.messages.specs.Judge.{byte_at, dump_rows, operand_rows, number_in, kind_rows, record_of, judge}
use Rattle.judging.specs.code.Content.{sent_in, sum_in}
use Rattle.judging.specs.code.Judged.{kind_verdict, judged, judged_as, refused_by}
use Rattle.messages.specs.code.Sizes.{sized}
use Rattle.messages.proofs.Filed.{is_sized}
use Rattle.messages.proofs.DumpLaws.{dump_refusals}
use Rattle.messages.proofs.Numbers.{operand_refusals}
use Rattle.messages.proofs.Content.{framed_length, framed_byte, framed_data, framed_sum, framed_bytes}

-- What the code has of a kind's message with the content c, where the length is right: its rows, and the bytes that come with it where they say nothing.
pub record Judging (k : Kind) (c : List ℕ) (rows : List Row) (bytes : List ℕ) : Type 0 where
  pub known : is_unknown k ≡ false
  pub tests : length c + 2 ≡ length_of k → kind_rows k (framed c) ≡ rows
  pub refusals : Refusals rows
  pub accepts : length c + 2 ≡ length_of k → judged (record_of k (framed c)) ≡ judged_as (opcode_of k) bytes

module _ {k : Kind} {c : List ℕ} {rows : List Row} {bytes : List ℕ} (i : Judging k c rows bytes) where
  -- A content of another length than the kind's.
  pub kind_length : (length c + 2 ≡ length_of k → ⊥) → refused_by (outcome 7 0) ≡ judged (kind_verdict k (framed c))
  unfolding kind_verdict
  kind_length n = rw (i.known, framed_length c, ne_eqb (length c + 2) (length_of k) n)

  -- The rows are answered d: the message is refused by that, or accepted.
  module _ (l : length c + 2 ≡ length_of k) {d : Outcome} (t : d ≡ tested rows) where
    whole : kind_verdict k (framed c) ≡ first rows (record_of k (framed c))
    unfolding kind_verdict
    whole = rw (i.known, framed_length c, eq-eqb (length c + 2) (length_of k) l, i.tests l)

    pub kind_stopped : (d.answer ≡ 0 → ⊥) → refused_by d ≡ judged (kind_verdict k (framed c))
    kind_stopped n = rw (t, whole, first_stopped rows (record_of k (framed c)) (λ z. n (ap (λ (o : Outcome). o.answer) t ∙ z)))

    pub kind_done : d.answer ≡ 0 → judged_as (opcode_of k) bytes ≡ judged (kind_verdict k (framed c))
    kind_done z = rw (whole, first_passed rows (record_of k (framed c)) (passed rows d i.refusals t z)) (sym (i.accepts l))

-- What the code tests of a dump behind its length, from the content.
abbrev pub content_rows : Dump → List ℕ → List Row
content_rows k c = let size = size_of k.packed in dump_rows k (get_or c 3 0) (sent_in size c) (sum_in size c)

pub dump_judged : (k : Dump) → T (sized (of_dump k)) → (c : List ℕ) → Judging (of_dump k) c (content_rows k c) (four (number_in k.behind (get_or c 3 0)))
dump_judged k s c = record {
  known = refl;
  tests = λ l.
      let long : length c ≡ 5 + 2 * size_of k.packed = omega (arith, (is_sized (of_dump k) s).0) in
      rw (framed_byte c 3 (omega arith), framed_data (size_of k.packed) c long, framed_sum (size_of k.packed) c long);
  refusals = dump_refusals k (get_or c 3 0) (sent_in (size_of k.packed) c) (sum_in (size_of k.packed) c);
  accepts = λ l. rw (framed_byte c 3 (omega (arith, (is_sized (of_dump k) s).0)));
}

pub short_judged : (k : Short) → T (sized (of_short k)) → (c : List ℕ) → Judging (of_short k) c (operand_rows k.operands (drop 3 c)) (four (drop 3 c))
short_judged k s c = record {
  known = refl;
  tests = λ l. rw (framed_bytes (count_of k.operands) c (omega (arith, (is_sized (of_short k) s).0)));
  refusals = operand_refusals k.operands (drop 3 c);
  accepts = λ l. rw (framed_bytes (count_of k.operands) c (omega (arith, (is_sized (of_short k) s).0)));
}

-- Of four bytes, zero behind the last, the first so many are the bytes themselves.
pub four_front : (l : List ℕ) → length l ≤ 4 → take (length l) (four l) ≡ l
four_front [] h = refl
four_front (x ∷ []) h = refl
four_front (x ∷ y ∷ []) h = refl
four_front (x ∷ y ∷ z ∷ []) h = refl
four_front (x ∷ y ∷ z ∷ w ∷ []) h = refl
four_front (x ∷ y ∷ z ∷ w ∷ v ∷ l) h = absurd (omega arith)

-- The rows 4 and 5, and what is left to the kind.
module _ (m : List ℕ) where
  pub judge_maker : (byte_at m 1 ≡ 0x10 → ⊥) → judge m ≡ refused (outcome 4 0)
  unfolding judge
  judge_maker n = rw (ne_eqb (byte_at m 1) 0x10 n)

  pub judge_device : byte_at m 1 ≡ 0x10 → (byte_at m 2 ≡ 0x06 → ⊥) → judge m ≡ refused (outcome 5 0)
  unfolding judge
  judge_device e n = rw (eq-eqb (byte_at m 1) 0x10 e, ne_eqb (byte_at m 2) 0x06 n)

  pub judge_opcode : byte_at m 1 ≡ 0x10 → byte_at m 2 ≡ 0x06 → judge m ≡ kind_verdict (kind_of (byte_at m 3)) m
  unfolding judge kind_verdict
  judge_opcode e f = rw (eq-eqb (byte_at m 1) 0x10 e, eq-eqb (byte_at m 2) 0x06 f)
