-- What the operations may have behind their opcode, in numbers, exactly.
use Rattle.std.specs.Prelude.{◌≡◌, true, false, List, [], ◌∷◌, ◌↔◌, ◌⊎◌, ℕ, ◌≤◌, length}
use Rattle.operations.specs.Operations.{Operation, a_request, a_group, a_bank, an_unlock, a_store, bytes_of, allowed}

pub record Allowed : Type 0 where
  -- 02 (vii): for 04H type 1, number is 0..99, for the others 0. 000's other types are 0, 3 and 4.
  pub request : (kind number : ℕ)
      → (allowed a_request (kind ∷ number ∷ []) ≡ true) ↔ (((kind ≡ 1) × (number ≤ 99)) ⊎ (((kind ≡ 0) ⊎ ((kind ≡ 3) ⊎ (kind ≡ 4))) × (number ≡ 0)))
  -- 000: the total number of units in the group is 2-6, the ID 0 or 1-5. Each by itself: an ID may be as great as the total, or greater.
  pub group : (total id : ℕ) → (allowed a_group (total ∷ id ∷ []) ≡ true) ↔ ((2 ≤ total) × (total ≤ 6) × (id ≤ 5))
  -- 000: bank 0-9.
  pub bank : (bank : ℕ) → (allowed a_bank (bank ∷ []) ≡ true) ↔ (bank ≤ 9)
  -- 0CH has nothing behind its opcode.
  pub unlock : allowed an_unlock [] ≡ true
  -- 000: number 0-99, bank 0-9. 02 (vii): the ID is 0..5 or 7FH.
  pub store : (number bank id : ℕ)
      → (allowed a_store (number ∷ bank ∷ id ∷ []) ≡ true) ↔ ((number ≤ 99) × (bank ≤ 9) × ((id ≤ 5) ⊎ (id ≡ 0x7F)))
  -- 02 (vii): an ID of 6 is never accepted.
  pub group_6 : (total : ℕ) → allowed a_group (total ∷ 6 ∷ []) ≡ false
  pub store_6 : (number bank : ℕ) → allowed a_store (number ∷ bank ∷ 6 ∷ []) ≡ false
  -- Another count of bytes is never allowed.
  pub counted : (o : Operation) (b : List ℕ) → allowed o b ≡ true → length b ≡ bytes_of o
