-- The kinds in numbers: which opcodes are filed, a split's number, length and test (02 (x)), and what a message of an operation comes to (02 (vii)).
use Rattle.std.specs.Prelude.{◌≡◌, cond, List, [], ◌∷◌, map, ℕ, eqb, ltb, length}
use Rattle.answers.specs.Effect.{tested}
use Rattle.answers.specs.Lists.{All}
use Rattle.answers.specs.Table.{Verdict, done, refused, outcome, outcome_of, answer_of}
use Rattle.patch.specs.Patch.{patch_rows}
use Rattle.splits.specs.Splits.{split_rows}
use Rattle.operations.specs.declared.Operation.{Operation}
use Rattle.operations.specs.declared.Operation.TheVariants.{Request as a_request, Group as a_group, Bank as a_bank, Unlock as an_unlock, Store as a_store}
use Rattle.operations.specs.Operations.{bytes_of, allowed}
use Rattle.messages.specs.Kinds.{a_patch, a_split, an_operation, Kind, of_dump, split_patch, request_data, group_mode, set_bank, unlock_bank, store_edit_buffer, kinds, opcode_of, kind_of}
use Rattle.messages.specs.Judge.{byte_at, misnumbered, lent_operand_rows, judge}
use Rattle.messages.specs.Layout.{message_of}
use Rattle.messages.specs.code.Sizes.{lent_rows}

-- No message with a kind's opcode is answered 6.
abbrev pub NeverSix : Kind → Type 0
NeverSix k = (m : List ℕ) → byte_at m 3 ≡ opcode_of k → answer_of (judge m) ≡ 6 → ⊥

-- A message of an operation: 7 for another count of bytes behind its opcode, 8 where they are not allowed, else done, and they come with the answer.
abbrev pub operation_verdict : ℕ → Operation → List ℕ → Verdict
operation_verdict opcode o b =
    cond (eqb (length b) (bytes_of o))
    (cond (allowed o b) (done opcode b []) (refused (outcome 8 0)))
    (refused (outcome 7 0))

pub record Described : Type 0 where
  -- Eleven kinds.
  pub opcodes : map opcode_of kinds ≡ 0x01 ∷ 0x02 ∷ 0x03 ∷ 0x04 ∷ 0x06 ∷ 0x07 ∷ 0x0A ∷ 0x0B ∷ 0x0C ∷ 0x0D ∷ 0x0E ∷ []
  -- Answer 6 covers none of them, and every other opcode, whatever stands behind it.
  pub never_6 : All NeverSix kinds
  pub other_6 : (opcode : ℕ) (b : List ℕ) → All (λ k. opcode ≡ opcode_of k → ⊥) kinds → judge (message_of opcode b) ≡ refused (outcome 6 0)
  -- 02H finds the split: it is never answered 12.
  pub split_filed : kind_of 0x02 ≡ of_dump split_patch
  pub split_never_12 : (m : List ℕ) → byte_at m 3 ≡ 0x02 → answer_of (judge m) ≡ 12 → ⊥
  -- Number 0..49; 43 bytes.
  pub split_number : (n : ℕ) → misnumbered split_patch.behind n ≡ ltb 49 n
  pub split_length : split_patch.length ≡ 43
  -- 000's dummy split, which has neither number nor sum, is 7 whatever its 36 bytes are.
  pub split_dummy : (d : List ℕ) → length d ≡ 36 → judge (message_of 0x02 d) ≡ refused (outcome 7 0)
  -- What is read and written is tested as what is lent: a split, and a patch.
  pub split_lent : (p : List ℕ) → tested (lent_rows a_split p) ≡ tested (split_rows p)
  pub patch_lent : (p : List ℕ) → tested (lent_rows a_patch p) ≡ tested (patch_rows p)
  -- Lengths 7, 7, 6, 5 and 8.
  pub operation_lengths : map (λ k. k.length) (request_data ∷ group_mode ∷ set_bank ∷ unlock_bank ∷ store_edit_buffer ∷ []) ≡ 7 ∷ 7 ∷ 6 ∷ 5 ∷ 8 ∷ []
  -- The bytes of an operation as its writer is given them.
  pub operation_given : (o : Operation) (b : List ℕ) → tested (lent_operand_rows (an_operation o) b) ≡ outcome_of (operation_verdict 0 o b)
  -- Whatever stands behind the opcode of an operation.
  pub request : (b : List ℕ) → judge (message_of 0x04 b) ≡ operation_verdict 0x04 a_request b
  pub group : (b : List ℕ) → judge (message_of 0x07 b) ≡ operation_verdict 0x07 a_group b
  pub bank : (b : List ℕ) → judge (message_of 0x0A b) ≡ operation_verdict 0x0A a_bank b
  pub unlock : (b : List ℕ) → judge (message_of 0x0C b) ≡ operation_verdict 0x0C an_unlock b
  pub store : (b : List ℕ) → judge (message_of 0x0E b) ≡ operation_verdict 0x0E a_store b
