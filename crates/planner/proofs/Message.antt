-- A message that is written in three parts: its first four bytes, its own bytes, and the last.
use Rattle.std.proofs.Common.{◌≡◌, ℕ, ◌+◌, ◌-◌, ◌≤◌, List, [], ◌∷◌, ◌++◌, length, drop, refl, ap, ◌∙◌, arith, append_assoc}
use Rattle.std.proofs.Math.ListN.{set, length-append}
use Rattle.std.proofs.Math.Seq.{drop-drop}
use borrow.Rule.Slice.PartMut.{put_mid}
use Rattle.answers.specs.Effect.{at_start}
use Rattle.answers.proofs.Lists.{put_next}
use Rattle.messages.specs.Layout.{message_of}

module _ (opcode : ℕ) (own out : List ℕ) (room : length own + 5 ≤ length out) where
  abbrev head : List ℕ
  head = 240 ∷ 16 ∷ 6 ∷ opcode ∷ []

  with_own : put_mid 4 (4 + length own - 4) (head ++ drop 4 out) own ≡ (head ++ own) ++ drop (4 + length own) out
  with_own =
      let n : 4 + length own - 4 ≡ length own = omega arith in
      rw (n, drop-drop (length own) 4 out, append_assoc) refl

  pub in_parts : set (put_mid 4 (4 + length own - 4) (head ++ drop 4 out) own) (4 + length own) 247 ≡ at_start (message_of opcode own) out
  in_parts =
      let n : 4 + length own + 1 ≡ length (message_of opcode own) = omega (arith, length-append own (247 ∷ [])) in
      ap (λ (xs : List ℕ). set xs (4 + length own) 247) with_own
      ∙ put_next (head ++ own) out (4 + length own) 247 (length-append head own) (omega arith) ∙ rw (n, append_assoc) refl
