-- The messages as our writers write them: what stands between F0H and F7H is data bytes, and a message that passes its writer's tests is
-- accepted with its record. Numbers are below 100, nibbles below 16, the sum below 128; a parameter, a bus and its bytes are in range.
use mathlib.Core.Path.{◌≡◌, refl, sym, ap, ◌∙◌, subst}
use mathlib.Core.Bool.{false, not}
use mathlib.Core.List.{List, [], ◌∷◌, ◌++◌}
use mathlib.Core.Option.{Option, none, some}
use Prim.Native.Nat.{ℕ, suc, ◌+◌, ◌*◌, ◌<◌}
use native.Mathlib.Omega.{arith}
use lib.Dec.{eqb}
use lib.ListN.{length, get_or, length-append}
use borrow.Author.Tests.{eq-eqb, eqb-true, not-false, ltb-false}
use Rattle.answers.specs.Lists.{All}
use Rattle.answers.specs.Table.{Verdict, done}
use Rattle.answers.proofs.Lists.{all_append, all_weaken, spelled}
use Rattle.answers.proofs.Rows.{first_passed, row_silent, row_equal, row_found_silent}
use Rattle.answers.specs.promises.Decides.{Silent}
use Rattle.streams.specs.Bytes.{framed}
use Rattle.nibbles.specs.Nibbles.{nibbles, sum}
use Rattle.nibbles.proofs.Laws.{nibbles_narrow, sum_below}
use Rattle.ranges.specs.Ranges.{Table, out_by}
use Rattle.ranges.proofs.Runs.{one_in, run_bytes}
use Rattle.fields.specs.Fields.{fields, place_of}
use Rattle.fields.proofs.Rules.{place_is_found, parameter_number}
use Rattle.fields.proofs.Buses.{source_below, destination_below}
use Rattle.edits.specs.Edits.{extended, edit_rows, bus_rows}
use Rattle.operations.specs.Operations.{allowed}
use Rattle.operations.proofs.Numbers.{allowed_seven}
use Rattle.edits.proofs.Tests.{rows_at, rows_nowhere, value_small, bus_number, bus_amount, bus_bytes}
use Rattle.messages.specs.Kinds.{Behind, number_to, always, Operands, an_edit, a_bus_edit, an_operation, Short}
use Rattle.messages.specs.Kinds.{Kind, of_dump, of_short, unknown, count_of, shape_of, size_of, opcode_of, Filed}
use Rattle.messages.specs.Judge.{misnumbered, number_in, operand_rows, judge}
use Rattle.messages.specs.Layout.{message_of, dump, behind_for, message, record_for, given_rows}
use Rattle.messages.specs.promises.Given.{Numbered, Given, AllBytes, BytesIn}
use Rattle.messages.proofs.Filed.{every_kind, filed_sized}
use Rattle.messages.proofs.Content.{framed_bytes}
use Rattle.messages.proofs.DumpLaws.{dump_accepted}

-- What stands between F0H and F7H of a dump.
abbrev pub dump_content : ℕ → ℕ → List ℕ → List ℕ
dump_content op n p = 0x10 ∷ 0x06 ∷ op ∷ n ∷ (nibbles p ++ (sum p ∷ []))

pub dump_data : (op n : ℕ) (p : List ℕ) → op < 0x80 → n < 0x80 → All (λ b. b < 256) p → All (λ b. b < 0x80) (dump_content op n p)
dump_data op n p o h a =
    let nibbled = all_weaken (λ b. b < 16) (λ b. b < 0x80) (λ b q. omega arith) (nibbles p) (nibbles_narrow p a) in
    (omega arith, (omega arith, (o, (h, all_append (λ b. b < 0x80) (nibbles p) (sum p ∷ []) nibbled (sum_below p, tt)))))

-- A short message whose rows say nothing is accepted.
pub short_accepted : (k : Short) → Filed (of_short k) → (b : List ℕ) → length b ≡ count_of k.operands → Silent (operand_rows k.operands b)
    → judge (message_of k.opcode b) ≡ done k.opcode b []
unfolding judge
short_accepted k f b l a =
    let m = message_of k.opcode b in
    let right : length m ≡ k.length = omega (arith, length-append b (0xF7 ∷ []), (filed_sized (of_short k) f).0) in
    let same = framed_bytes (count_of k.operands) (0x10 ∷ 0x06 ∷ k.opcode ∷ b) (omega arith) in
    rw (f, eq-eqb (length m) k.length right, same) (first_passed (operand_rows k.operands b) (done k.opcode b []) a)

edit_data : (n v : ℕ) → Silent (edit_rows n v) → All (λ b. b < 0x80) (n ∷ v ∷ [])
edit_data n v a = go (place_of n) refl
  where
    go : (o : Option ℕ) → place_of n ≡ o → All (λ b. b < 0x80) (n ∷ v ∷ [])
    go none e = let q = (rw (rows_nowhere n v e) at a).0 in let z : ◌≡◌ {A = ℕ} 0 1 = cc in absurd (omega arith)
    go (some k) e =
        let s = place_is_found n k e in
        let small = parameter_number k s.low s.high in
        let seven = value_small k n v (rw (rows_at n v k e) at a) in
        omega (arith, s.parameter)

bus_data : (b s a d : ℕ) → Silent (bus_rows b s a d) → All (λ x. x < 0x80) (b ∷ s ∷ a ∷ d ∷ [])
bus_data b s a d q =
    let number = bus_number b s a d q in
    let seven = bus_amount b s a d q in
    let in₀ = one_in fields (104 + 3 * b) s (extended a ∷ d ∷ []) (bus_bytes b s a d q) in
    let in₁ = one_in fields (suc (104 + 3 * b)) (extended a) (d ∷ []) in₀.1 in
    let in₂ = one_in fields (suc (suc (104 + 3 * b))) d [] in₁.1 in
    let source = source_below b s number in₀.0 in
    let two : suc (suc (104 + 3 * b)) ≡ 106 + 3 * b = omega arith in
    let destination = destination_below b d number (rw two at in₂.0) in
    omega arith

abbrev greatest_of : Behind → ℕ
greatest_of (number_to greatest) = greatest
greatest_of (always byte) = byte

-- What stands behind the device of a message that passes its tests is below 80H: opcode, number, a short message's bytes.
abbrev pub SevenBits : Kind → Type 0
SevenBits (of_dump k) = (k.opcode < 0x80) × ((n : ℕ) → misnumbered k.behind n ≡ false → n < 0x80)
SevenBits (of_short k) =
    (k.opcode < 0x80) × ((b : List ℕ) → length b ≡ count_of k.operands → Silent (operand_rows k.operands b) → All (λ x. x < 0x80) b)
SevenBits unknown = Unit {0}

number_seven : (b : Behind) → greatest_of b < 0x80 → (n : ℕ) → misnumbered b n ≡ false → n < 0x80
number_seven (number_to greatest) h n e = omega (arith, ltb-false greatest n e)
number_seven (always byte) h n e = omega (arith, eqb-true n byte (not-false (eqb n byte) e))

operands_seven : (o : Operands) (b : List ℕ) → length b ≡ count_of o → Silent (operand_rows o b) → All (λ x. x < 0x80) b
operands_seven an_edit b l a = rw (spelled b 2 l) (edit_data (get_or b 0 0) (get_or b 1 0) a)
operands_seven a_bus_edit b l a = rw (spelled b 4 l) (bus_data (get_or b 0 0) (get_or b 1 0) (get_or b 2 0) (get_or b 3 0) a)
operands_seven (an_operation o) b l a = allowed_seven o b (not-false (allowed o b) (row_silent 8 (not (allowed o b)) a.0))

abbrev Small : Kind → Type 0
Small (of_dump k) = (k.opcode < 0x80) × (greatest_of k.behind < 0x80)
Small (of_short k) = k.opcode < 0x80
Small unknown = Unit {0}

pub seven_bits : (k : Kind) → Filed k → SevenBits k
seven_bits k f = go k (subst Small f (every_kind Small tt (omega arith) (opcode_of k)))
  where
    go : (k : Kind) → Small k → SevenBits k
    go (of_dump k) s = (s.0, number_seven k.behind s.1)
    go (of_short k) s = (s, operands_seven k.operands)
    go unknown s = tt

-- The number that comes with the answer is the byte behind the opcode, and back.
pub number_given : (x : Behind) (b : List ℕ) → Numbered x b → number_in x (behind_for x b) ≡ b
number_given (number_to greatest) b l = sym (spelled b 1 l)
number_given (always byte) b e = sym e

pub number_back : (x : Behind) (n : ℕ) → misnumbered x n ≡ false → behind_for x (number_in x n) ≡ n
number_back (number_to greatest) n e = refl
number_back (always byte) n e = sym (eqb-true n byte (not-false (eqb n byte) e))

pub numbered : (x : Behind) (n : ℕ) → Numbered x (number_in x n)
numbered (number_to greatest) n = refl
numbered (always byte) n = refl

-- The packed bytes that a writer takes are bytes.
pub packed_bytes : (t : Option Table) (p : List ℕ) → AllBytes t p → out_by t p ≡ none → All (λ b. b < 256) p
packed_bytes none p bytes e = bytes
packed_bytes (some t) p u e = run_bytes t 0 p e

-- A message of data bytes between F0H and F7H that is accepted with its record.
pub record Sound (k : Kind) (b p : List ℕ) : Type 0 where
  pub content : List ℕ
  pub bytes : message k b p ≡ framed content
  pub seven : All (λ x. x < 0x80) content
  pub accepted : judge (message k b p) ≡ record_for k b p

-- What a writer takes makes such a message.
pub sound : (k : Kind) (b p : List ℕ) → Filed k → Given k b p → BytesIn k p → Silent (given_rows k b p) → Sound k b p
unfolding dump
sound (of_dump k) b p f g u a =
    let n = behind_for k.behind b in
    let l = row_equal 7 (length p) (size_of k.packed) a.0 in
    let number = row_silent 8 (misnumbered k.behind n) a.1.0 in
    let table = (shape_of k.packed).table in
    let bytes = packed_bytes table p u (row_found_silent 11 (out_by table p) a.1.1.0) in
    let small = seven_bits (of_dump k) f in
    record {
      content = dump_content k.opcode n p;
      bytes = refl;
      seven = dump_data k.opcode n p small.0 (small.1 n number) bytes;
      accepted = dump_accepted k f n p number l bytes a.1.1 ∙ ap (λ (x : List ℕ). done k.opcode x p) (number_given k.behind b g);
    }
sound (of_short k) b p f g u a =
    let small = seven_bits (of_short k) f in
    let l = row_equal 7 (length b) (count_of k.operands) a.0 in
    record {
      content = 0x10 ∷ 0x06 ∷ k.opcode ∷ b;
      bytes = refl;
      seven = (omega arith, (omega arith, (small.0, small.1 b l a.1)));
      accepted = rw g (short_accepted k f b l a.1);
    }
sound unknown b p f g u a = absurd g

-- What holds of data bytes between F0H and F7H and what they come to holds of that message and its record.
pub sound_holds : (k : Kind) (b p : List ℕ) (F : List ℕ → Verdict → Type 0) → ((c : List ℕ) → All (λ x. x < 0x80) c → F (framed c) (judge (framed c)))
    → Sound k b p → F (message k b p) (record_for k b p)
sound_holds k b p F f s =
    subst (λ (v : Verdict). F (message k b p) v) s.accepted (subst (λ (m : List ℕ). F m (judge m)) (sym s.bytes) (f s.content s.seven))
