-- The kinds in numbers. A dummy split has 41 bytes, two less than a split; a split has no buses, so their row says nothing; of an operation's message
-- two rows are left, its length's and its bytes'.
use mathlib.Core.Path.{◌≡◌, refl}
use mathlib.Core.Bool.{Bool, true, false, cond, not}
use mathlib.Core.List.{List, [], ◌∷◌}
use Prim.Native.Nat.{ℕ, ◌+◌}
use native.Mathlib.Omega.{arith}
use lib.Dec.{eqb}
use lib.ListN.{length, length-append}
use borrow.Author.Tests.{eqb-true, eqb-false, eq-eqb, ne_eqb}
use Rattle.answers.specs.Lists.{All}
use Rattle.answers.specs.Table.{row, first, done, outcome, outcome_of, refused}
use Rattle.answers.specs.Effect.{tested}
use Rattle.answers.proofs.Lists.{all_weaken}
use Rattle.patch.specs.Patch.{half_from}
use Rattle.operations.specs.declared.Operation.{Operation}
use Rattle.operations.specs.declared.Operation.TheVariants.{Request as a_request, Group as a_group, Bank as a_bank, Unlock as an_unlock, Store as a_store}
use Rattle.operations.specs.Operations.{bytes_of, allowed}
use Rattle.messages.specs.Kinds.{Kind, of_dump, of_short, split_patch, unknown, short_kind, an_operation, kinds, opcode_of, among, kind_of, Filed, is_unknown}
use Rattle.messages.specs.Judge.{byte_at, lent_operand_rows, judge}
use Rattle.messages.specs.Layout.{message_of}
use Rattle.messages.specs.promises.Described.{NeverSix, operation_verdict, Described}
use Rattle.messages.proofs.Content.{framed_bytes}
use Rattle.messages.proofs.DumpLaws.{wrong_length}
use Rattle.messages.proofs.Never.{never_given, known_6}

-- The kind that 02H finds.
found : (m : List ℕ) → byte_at m 3 ≡ 0x02 → kind_of (byte_at m 3) ≡ of_dump split_patch
unfolding kind_of
found m e = rw e

dummy : (d : List ℕ) → length d ≡ 36 → judge (message_of 0x02 d) ≡ refused (outcome 7 0)
unfolding kind_of
dummy [] l = absurd (omega arith)
dummy (n ∷ w) l = wrong_length split_patch refl n w (λ z. omega arith)

-- The opcode of each kind finds one that is known.
abbrev Known : Kind → Type 0
Known k = is_unknown (kind_of (opcode_of k)) ≡ false

all_known : All Known kinds
unfolding kind_of
all_known = (refl, (refl, (refl, (refl, (refl, (refl, (refl, (refl, (refl, (refl, (refl, tt)))))))))))

operation : (opcode : ℕ) (o : Operation) → Filed (of_short (short_kind opcode (an_operation o))) → (b : List ℕ)
    → judge (message_of opcode b) ≡ operation_verdict opcode o b
unfolding judge
operation opcode o f b = by_length (eqb (length b) (bytes_of o)) refl
  where
    m : List ℕ
    m = message_of opcode b

    size : length m ≡ 5 + length b
    size = omega (arith, length-append b (0xF7 ∷ []))

    by_test : (t : Bool) → first (row 8 (not t) ∷ []) (done opcode b []) ≡ cond t (done opcode b []) (refused (outcome 8 0))
    by_test true = refl
    by_test false = refl

    by_length : (t : Bool) → eqb (length b) (bytes_of o) ≡ t → judge m ≡ operation_verdict opcode o b
    by_length true q =
        let l = eqb-true (length b) (bytes_of o) q in
        let same = framed_bytes (bytes_of o) (0x10 ∷ 0x06 ∷ opcode ∷ b) (omega arith) in
        rw (f, q, eq-eqb (length m) (5 + bytes_of o) (omega (arith, size)), same) (by_test (allowed o b))
    by_length false q =
        let other = eqb-false (length b) (bytes_of o) q in
        rw (f, q, ne_eqb (length m) (5 + bytes_of o) (λ e. other (omega (arith, size))))

operation_given : (o : Operation) (b : List ℕ) → tested (lent_operand_rows (an_operation o) b) ≡ outcome_of (operation_verdict 0 o b)
operation_given o b = by_tests (eqb (length b) (bytes_of o)) (allowed o b)
  where
    by_tests : (s t : Bool) → tested (row 7 (not s) ∷ row 8 (not t) ∷ [])
        ≡ outcome_of (cond s (cond t (done 0 b []) (refused (outcome 8 0))) (refused (outcome 7 0)))
    by_tests true true = refl
    by_tests true false = refl
    by_tests false t = refl

-- An opcode of no kind of a list finds none.
none_of : (ks : List Kind) (o : ℕ) → All (λ k. o ≡ opcode_of k → ⊥) ks → among ks o ≡ unknown
none_of [] o a = refl
none_of (k ∷ ks) o a = rw (ne_eqb o (opcode_of k) a.0) (none_of ks o a.1)

other_6 : (opcode : ℕ) (b : List ℕ) → All (λ k. opcode ≡ opcode_of k → ⊥) kinds → judge (message_of opcode b) ≡ refused (outcome 6 0)
unfolding judge kind_of
other_6 opcode b a = rw (none_of kinds opcode a)

pub described : Described
unfolding kind_of half_from
described = record {
  opcodes = refl;
  never_6 = all_weaken Known NeverSix (λ k u m e. known_6 m (rw e u)) kinds all_known;
  other_6 = other_6;
  split_filed = refl;
  split_never_12 = λ m e. never_given.split_12.read m (found m e);
  split_number = λ n. refl;
  split_length = refl;
  split_dummy = dummy;
  split_lent = λ p. refl;
  patch_lent = λ p. refl;
  operation_lengths = refl;
  operation_given = operation_given;
  request = operation 0x04 a_request refl;
  group = operation 0x07 a_group refl;
  bank = operation 0x0A a_bank refl;
  unlock = operation 0x0C an_unlock refl;
  store = operation 0x0E a_store refl;
}
