-- The rows of a dump around those of its packed bytes are numbered 4 to 10, and a test that is not made says nothing.
use mathlib.Core.Path.{◌≡◌, refl}
use mathlib.Core.Bool.{false}
use mathlib.Core.List.{List, []}
use mathlib.Core.Logic.{inl, inr}
use mathlib.Core.Option.{none}
use Prim.Native.Nat.{ℕ, ◌<◌}
use native.Mathlib.Omega.{arith}
use Rattle.answers.specs.Lists.{All}
use Rattle.answers.specs.Table.{answer_of}
use Rattle.answers.proofs.Lists.{all_weaken}
use Rattle.answers.proofs.Rows.{Without, never_answered}
use Rattle.nibbles.specs.Nibbles.{pack}
use Rattle.patch.specs.Patch.{half_from}
use Rattle.messages.specs.Kinds.{Dump, Kind, of_dump, split_patch, master_parameters, shape_of, size_of, kind_of, is_unknown}
use Rattle.messages.specs.Judge.{byte_at, data_of, data_rows, packed_rows, kind_rows, message_rows, record_of, judge}
use Rattle.messages.specs.Layout.{given_rows}
use Rattle.messages.specs.code.Sizes.{lent_rows}
use Rattle.messages.specs.promises.Never.{NeverFor, NeverGiven}
use Rattle.messages.proofs.Numbers.{kind_numbers, IsDone, made, record_done}

module _ (n : ℕ) (above : 10 < n) (k : Dump) (own : (p : List ℕ) → All (Without n) (packed_rows k.packed p)) where
  kind_without : (m : List ℕ) → All (Without n) (kind_rows (of_dump k) m)
  unfolding data_rows
  kind_without m = (inr (λ z. omega arith), (inr (λ z. omega arith), (inr (λ z. omega arith), own (pack (data_of (size_of k.packed) m)))))

  message_without : (m : List ℕ) → kind_of (byte_at m 3) ≡ of_dump k → All (Without n) (message_rows m)
  message_without m e =
      (inr (λ z. omega arith), (inr (λ z. omega arith), (inr (λ z. omega arith), (inr (λ z. omega arith), rw e (kind_without m)))))

  never_read : (m : List ℕ) → kind_of (byte_at m 3) ≡ of_dump k → answer_of (judge m) ≡ n → ⊥
  unfolding judge
  never_read m e z = go (record_done (kind_of (byte_at m 3)) m)
    where
      go : IsDone (record_of (kind_of (byte_at m 3)) m) → ⊥
      go (made o b p q) = never_answered n (λ f. omega arith) (message_rows m) (message_without m e) o b p (rw q at z)

  never : NeverFor k n
  never = record {
    read = never_read;
    written = λ b p.
        never_answered n (λ f. omega arith) (given_rows (of_dump k) b p) (inr (λ z. omega arith), (inr (λ z. omega arith), own p)) 0 [] [];
    lent = λ p. never_answered n (λ f. omega arith) (lent_rows k.packed p) (inr (λ z. omega arith), own p) 0 [] [];
  }

no_table : (k : Dump) → (shape_of k.packed).table ≡ none → NeverFor k 11
no_table k e = never 11 (omega arith) k (λ p. (inl (rw e), (inr (λ z. omega arith), tt)))

no_buses : (k : Dump) → (shape_of k.packed).buses ≡ 0 → NeverFor k 12
unfolding half_from
no_buses k e = never 12 (omega arith) k (λ p. (inr (λ z. omega arith), (inl (rw e), tt)))

pub never_given : NeverGiven
never_given = record {
  no_table = no_table;
  no_buses = no_buses;
  master_11 = no_table master_parameters refl;
  master_12 = no_buses master_parameters refl;
  split_12 = no_buses split_patch refl;
}

-- Nor is 6 given where the opcode is known: all other rows have other numbers.
pub known_6 : (m : List ℕ) → is_unknown (kind_of (byte_at m 3)) ≡ false → answer_of (judge m) ≡ 6 → ⊥
unfolding judge
known_6 m e z = go (record_done k m)
  where
    k : Kind
    k = kind_of (byte_at m 3)

    own : All (Without 6) (kind_rows k m)
    own = all_weaken _ _ (λ r h. inr (λ z. omega arith)) (kind_rows k m) (kind_numbers k m)

    rows : All (Without 6) (message_rows m)
    rows = (inr (λ z. omega arith), (inr (λ z. omega arith), (inl (rw e), (inr (λ z. omega arith), own))))

    go : IsDone (record_of k m) → ⊥
    go (made o b p q) = never_answered 6 (λ f. omega arith) (message_rows m) rows o b p (rw q at z)
