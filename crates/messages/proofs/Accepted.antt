-- What an accepted message is: its record, by its content, and the nibbles that its packed bytes come from.
use mathlib.Core.Path.{◌≡◌, refl, sym, ap, ◌∙◌}
use mathlib.Core.Bool.{false}
use mathlib.Core.List.{List}
use mathlib.Core.Option.{none}
use Prim.Native.Nat.{ℕ, ◌+◌, ◌*◌, ◌<◌, ◌≤◌}
use native.Mathlib.Omega.{arith}
use lib.ListN.{length, take, drop, get_or}
use Rattle.answers.specs.Table.{done, answer_of}
use Rattle.answers.proofs.Rows.{first_passed, zero_silent, row_at_silent}
use Rattle.answers.specs.promises.Decides.{Silent}
use Rattle.streams.specs.Bytes.{framed}
use Rattle.nibbles.specs.Nibbles.{pack, first_wide, wide_from}
use Rattle.messages.specs.Kinds.{Kind, of_dump, of_short, unknown, kind_of, opcode_of, Filed, size_of, length_of, is_unknown, count_of, master}
use Rattle.messages.specs.code.Sizes.{packed_size}
use Rattle.messages.specs.Judge.{byte_at, data_of, packed_of, data_rows, number_in, bytes_from, kind_rows, message_rows, record_of, judge}
use Rattle.messages.proofs.Filed.{every_kind, found_filed, filed_sized}
use Rattle.messages.proofs.Numbers.{message_refusals, done_kind}
use Rattle.messages.proofs.Content.{framed_length, framed_byte, framed_data}

pub record Accepted (c : List ℕ) : Type 0 where
  pub opcode : ℕ
  pub bytes : List ℕ
  pub size : ℕ
  pub long : 2 < length c
  pub sized : packed_size (kind_of (get_or c 2 0)) ≡ size
  pub found : packed_size (kind_of opcode) ≡ size
  pub below : opcode < 256
  pub small : size ≤ master
  pub verdict : judge (framed c) ≡ done opcode bytes (pack (take (2 * size) (drop 4 c)))
  pub narrow : first_wide (take (2 * size) (drop 4 c)) ≡ none
  pub fits : 0 < size → 4 + 2 * size < length c

-- A message with answer 0 is accepted.
pub accepted : (c : List ℕ) → answer_of (judge (framed c)) ≡ 0 → Accepted c
unfolding judge packed_of data_rows wide_from pack
accepted c z =
    let m = framed c in
    let k = kind_of (byte_at m 3) in
    let s = zero_silent (message_rows m) (record_of k m) (message_refusals m) z in
    let q = done_kind m z in
    by_its_kind k refl q.known (found_filed (byte_at m 3) q.known) q.long q.passed (first_passed (message_rows m) (record_of k m) s)
  where
    -- The byte behind the device finds the kind.
    behind_device : (k : Kind) → kind_of (byte_at (framed c) 3) ≡ k → 2 < length c → kind_of (get_or c 2 0) ≡ k
    behind_device k q h = sym (ap kind_of (framed_byte c 2 h)) ∙ q

    a_byte : (k : Kind) → kind_of (byte_at (framed c) 3) ≡ k → opcode_of k < 256
    a_byte k q = rw q at (every_kind (λ k. opcode_of k < 256) (omega arith) (omega arith) (byte_at (framed c) 3))

    by_its_kind : (k : Kind) → kind_of (byte_at (framed c) 3) ≡ k → is_unknown k ≡ false → Filed k → length (framed c) ≡ length_of k → Silent (kind_rows k (framed c))
        → judge (framed c) ≡ record_of k (framed c) → Accepted c
    by_its_kind (of_dump k) q u f l s v =
        let size = size_of k.packed in
        let long : length c ≡ 5 + 2 * size = omega (arith, framed_length c, (filed_sized (of_dump k) f).0) in
        record {
          opcode = k.opcode;
          bytes = number_in k.behind (byte_at (framed c) 4);
          size = size;
          long = omega arith;
          sized = ap packed_size (behind_device (of_dump k) q (omega arith));
          found = ap packed_size f;
          below = a_byte (of_dump k) q;
          small = (filed_sized (of_dump k) f).1;
          verdict = rw (framed_data size c long) at v;
          narrow = rw (framed_data size c long) at (row_at_silent 9 (first_wide (data_of size (framed c))) s.1.0);
          fits = λ h. omega arith;
        }
    by_its_kind (of_short k) q u f l s v =
        let long : 2 < length c = omega (arith, framed_length c, (filed_sized (of_short k) f).0) in
        record {
          opcode = k.opcode;
          bytes = bytes_from (count_of k.operands) 4 (framed c);
          size = 0;
          long = long;
          sized = ap packed_size (behind_device (of_short k) q long);
          found = ap packed_size f;
          below = a_byte (of_short k) q;
          small = omega arith;
          verdict = v;
          narrow = refl;
          fits = λ h. absurd (omega arith);
        }
    by_its_kind unknown q u f l s v = let y : ◌≡◌ {A = ℕ} 0 1 = cc in absurd (omega arith)
