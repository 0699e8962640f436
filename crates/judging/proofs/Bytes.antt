-- A byte of a content that is asked for and compared, or asked for and taken.
use Rattle.std.proofs.Common.{◌≡◌, ℕ, suc, ◌<◌, ◌≤◌, Bool, true, false, not, eqb, List, length, get_or, sym, ◌∙◌, arith, eqb-true, eq-eqb}
use Rattle.std.specs.Prelude.{Result, Ok, Err, Some, None, slice_get, ok_or}
use Rattle.std.specs.Option.{option_eq}
use Rattle.std.proofs.lemmas.Option.{slice_get-get_or, slice_get_past}
use native.Mathlib.Decide.{dec_le}
use borrow.Author.Tests.{not-true, not-false}
use Rattle.answers.specs.declared.Refusal.{Refusal}
use Rattle.streams.specs.Bytes.{framed}
use Rattle.messages.specs.Judge.{byte_at}
use Rattle.messages.proofs.Content.{framed_byte, framed_end}

module _ (m : List ℕ) (i : ℕ) where
  -- There is such a byte, or there are no more than i.
  data Asked : Type 0 where
    there : i < length m → slice_get m i ≡ Some (get_or m i 0) → Asked
    past : length m ≤ i → slice_get m i ≡ None → Asked

  asked : Asked
  asked = go (dec_le (length m) i)
    where
      go : Dec (length m ≤ i) → Asked
      go (yes h) = past h (slice_get_past m i h)
      go (no n) = there (omega (arith, n)) (slice_get-get_or m i 0 (omega (arith, n)))

  module _ (x : ℕ) (t : Bool) (e : t ≡ not (option_eq eqb (slice_get m i) (Some x))) where
    -- It is x.
    pub equal : t ≡ false → (i < length m) × (get_or m i 0 ≡ x)
    equal z = go asked (not-false _ (sym e ∙ z))
      where
        go : Asked → option_eq eqb (slice_get m i) (Some x) ≡ true → (i < length m) × (get_or m i 0 ≡ x)
        go (there h q) k = (h, eqb-true (get_or m i 0) x (rw q at k))
        go (past h q) k = let f = rw q at k in let y : ◌≡◌ {A = ℕ} 0 1 = cc in absurd (omega arith)

    -- It is another one, or there is none.
    pub other : t ≡ true → i < length m → get_or m i 0 ≡ x → ⊥
    other z h q =
        let k = not-true _ (sym e ∙ z) in
        let f = rw (slice_get-get_or m i 0 h, eq-eqb (get_or m i 0) x q) at k in
        let y : ◌≡◌ {A = ℕ} 0 1 = cc in
        omega arith

    -- So the message, in which F7H stands behind the content, has another one there.
    pub framed_other : t ≡ true → i ≤ length m → (x ≡ 0xF7 → ⊥) → byte_at (framed m) (suc i) ≡ x → ⊥
    framed_other z l n q = go asked
      where
        go : Asked → ⊥
        go (there h k) = other z h (sym (framed_byte m i h) ∙ q)
        go (past h k) = n (sym q ∙ framed_end m i (omega arith))

    pub framed_equal : t ≡ false → byte_at (framed m) (suc i) ≡ x
    framed_equal z = let k = equal z in framed_byte m i k.0 ∙ k.1

  module _ (r : Result ℕ Refusal) (refusal : Refusal) (e : r ≡ ok_or (slice_get m i) refusal) where
    -- It is taken.
    pub taken : (y : ℕ) → r ≡ Ok y → (i < length m) × (get_or m i 0 ≡ y)
    taken y z = go asked
      where
        go : Asked → (i < length m) × (get_or m i 0 ≡ y)
        go (there h q) = let k = rw q at e in (h, cc)
        go (past h q) = let k = rw q at e in cc

    -- There is none to take.
    pub missing : (y : Refusal) → r ≡ Err y → (length m ≤ i) × (y ≡ refusal)
    missing y z = go asked
      where
        go : Asked → (length m ≤ i) × (y ≡ refusal)
        go (there h q) = let k = rw q at e in cc
        go (past h q) = let k = rw q at e in (h, cc)
