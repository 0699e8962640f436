-- A message that is accepted is the message that our writer writes from its record.
-- Its rows say nothing, so its length is right, its data bytes are the nibbles of the packed bytes, and its sum is theirs.
use mathlib.Core.Path.{◌≡◌, refl, sym, ap, ◌∙◌}
use mathlib.Core.Bool.{false}
use mathlib.Core.List.{List, [], ◌∷◌, ◌++◌}
use Prim.Native.Nat.{ℕ, suc, ◌+◌, ◌*◌}
use native.Mathlib.Omega.{arith}
use lib.ListN.{length, take, get_or, length-append, drop_of_length-le}
use lib.Seq.{split_at, length-take-le}
use borrow.Author.Tests.{eq-eqb}
use Rattle.answers.specs.Table.{Verdict, done, refused, outcome, answer_of}
use Rattle.answers.proofs.Rows.{done_passed, row_silent, row_equal}
use Rattle.answers.specs.promises.Decides.{Silent}
use Rattle.streams.specs.Bytes.{framed}
use Rattle.nibbles.specs.Nibbles.{nibbles, pack, sum}
use Rattle.nibbles.proofs.Laws.{length_pack, nibbles_pack}
use Rattle.messages.specs.Kinds.{Dump, Short, Kind, of_dump, of_short, unknown, opcode_of, kind_of, Filed, length_of, is_unknown, count_of}
use Rattle.messages.specs.Judge.{number_in, dump_rows, message_rows, kind_rows, record_of, judge}
use Rattle.messages.specs.Layout.{message_of, dump, message, record_for, given_rows}
use Rattle.messages.specs.promises.Given.{Given}
use Rattle.messages.proofs.Filed.{found_opcode, found_filed, filed_sized}
use Rattle.messages.proofs.Content.{framed_bytes}
use Rattle.messages.proofs.Numbers.{done_head}
use Rattle.messages.proofs.DumpLaws.{size, dump_record, rows_passed, dump_tested}
use Rattle.messages.proofs.Written.{number_back, numbered}

-- A message as our writers write it from what they are given, with the verdict of its record, and its writer's rows say nothing.
pub record Accepted (m : List ℕ) (v : Verdict) : Type 0 where
  pub kind : Kind
  pub bytes : List ℕ
  pub packed : List ℕ
  pub filed : Filed kind
  pub given : Given kind bytes packed
  pub its_message : m ≡ message kind bytes packed
  pub its_record : v ≡ record_for kind bytes packed
  pub passes : Silent (given_rows kind bytes packed)

-- Bytes of which one more follows n.
last_apart : (w : List ℕ) (n : ℕ) → length w ≡ 1 + n → w ≡ take n w ++ (get_or w n 0 ∷ [])
last_apart w n l = split_at w n 0 (omega arith) ∙ rw (drop_of_length-le w {i = suc n} (omega arith))

-- F7H in the place of the opcode.
no_opcode : judge (framed (0x10 ∷ 0x06 ∷ [])) ≡ refused (outcome 6 0)
unfolding judge kind_of
no_opcode = refl

-- Data bytes d and their sum s, as the dump of the packed bytes.
dump_back : (k : Dump) (n : ℕ) (d : List ℕ) (s : ℕ) → nibbles (pack d) ≡ d → s ≡ sum (pack d)
    → message_of k.opcode (n ∷ (d ++ (s ∷ []))) ≡ dump k.opcode n (pack d)
unfolding dump
dump_back k n d s e f = rw (e, ← f)

module _ (op : ℕ) (bytes packed : List ℕ) where
  -- What a message with the opcode o and the bytes r behind it has passed where it is accepted.
  record Passed (k : Kind) (o : ℕ) (r : List ℕ) : Type 0 where
    long : 5 + length r ≡ length_of k
    known : is_unknown k ≡ false
    rows : Silent (kind_rows k (message_of o r))
    same : record_of k (message_of o r) ≡ done op bytes packed

  passed : (k : Kind) (o : ℕ) (r : List ℕ) → kind_of o ≡ k → judge (message_of o r) ≡ done op bytes packed → Passed k o r
  unfolding judge
  passed k o r q e =
      let m = message_of o r in
      let p = done_passed (message_rows m) (record_of (kind_of o) m) op bytes packed e in
      let silent = rw q at p.0 in
      let size = row_equal 7 (length m) (length_of k) silent.1.1.1.0 in
      record {
        long = omega (arith, length-append r (0xF7 ∷ []));
        known = row_silent 6 (is_unknown k) silent.1.1.0;
        rows = silent.1.1.1.1;
        same = rw q at p.1;
      }

  -- A dump of the right length that is accepted.
  dump_again : (k : Dump) (r : List ℕ) → Filed (of_dump k) → length r ≡ 2 + 2 * size k → judge (message_of k.opcode r) ≡ done op bytes packed
      → Accepted (message_of k.opcode r) (done op bytes packed)
  dump_again k [] f long e = absurd (omega arith)
  dump_again k (n ∷ w) f long e =
      let d = take (2 * size k) w in
      let s = get_or w (2 * size k) 0 in
      let half : length d ≡ 2 * size k = length-take-le (2 * size k) w (omega arith) in
      let whole = ap (λ (l : List ℕ). message_of k.opcode (n ∷ l)) (last_apart w (2 * size k) (omega arith)) in
      let tested = sym (dump_tested k f n d s half) ∙ ap judge (sym whole) ∙ e in
      let passed = done_passed (dump_rows k n d s) (dump_record k n (pack d)) op bytes packed tested in
      let q = rows_passed k n d s passed.0 in
      let size_packed : length (pack d) ≡ size k = omega (arith, length_pack d) in
      let back = number_back k.behind n q.number in
      record {
        kind = of_dump k;
        bytes = number_in k.behind n;
        packed = pack d;
        filed = f;
        given = numbered k.behind n;
        its_message = whole ∙ dump_back k n d s (nibbles_pack d (omega arith) q.narrow) q.summed ∙ rw back;
        its_record = sym passed.1;
        passes = (rw (eq-eqb (length (pack d)) (size k) size_packed), (rw (back, q.number), q.packed));
      }

  short_again : (k : Short) (r : List ℕ) → Filed (of_short k) → Passed (of_short k) k.opcode r → Accepted (message_of k.opcode r) (done op bytes packed)
  short_again k r f p =
      let l : length r ≡ count_of k.operands = omega (arith, p.long, (filed_sized (of_short k) f).0) in
      let b = framed_bytes (count_of k.operands) (0x10 ∷ 0x06 ∷ k.opcode ∷ r) (omega arith) in
      record {
        kind = of_short k;
        bytes = r;
        packed = [];
        filed = f;
        given = refl;
        its_message = refl;
        its_record = sym (rw b at p.same);
        passes = (rw (eq-eqb (length r) (count_of k.operands) l), rw b at p.rows);
      }

  -- A message of an opcode whose kind is k.
  by_its_kind : (k : Kind) (o : ℕ) (r : List ℕ) → o ≡ opcode_of k → Filed k → judge (message_of o r) ≡ done op bytes packed → Passed k o r
      → Accepted (message_of o r) (done op bytes packed)
  by_its_kind (of_dump k) o r q f e p = rw q (dump_again k r f (omega (arith, p.long, (filed_sized (of_dump k) f).0)) (rw q at e))
  by_its_kind (of_short k) o r q f e p = rw q (short_again k r f (rw q at p))
  by_its_kind unknown o r q f e p = let z = p.known in let y : ◌≡◌ {A = ℕ} 0 1 = cc in absurd (omega arith)

  -- A message that is accepted is one of our writers'.
  pub accepted : (c : List ℕ) → judge (framed c) ≡ done op bytes packed → Accepted (framed c) (done op bytes packed)
  accepted [] e = absurd (omega (arith, (done_head (framed []) (ap answer_of e)).0))
  accepted (x ∷ []) e = absurd (omega (arith, (done_head (framed (x ∷ [])) (ap answer_of e)).1))
  accepted (x ∷ y ∷ []) e =
      let h = done_head (framed (x ∷ y ∷ [])) (ap answer_of e) in
      let f = sym no_opcode ∙ (rw (h.0, h.1) at e) in
      let z : ◌≡◌ {A = ℕ} 0 1 = cc in
      absurd (omega arith)
  accepted (x ∷ y ∷ o ∷ r) e =
      let h = done_head (framed (x ∷ y ∷ o ∷ r)) (ap answer_of e) in
      let f = rw (h.0, h.1) at e in
      let p = passed (kind_of o) o r refl f in
      rw (h.0, h.1) (by_its_kind (kind_of o) o r (found_opcode o p.known) (found_filed o p.known) f p)
