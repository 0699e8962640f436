-- The bytes and the room are tested in this order, and then the message is written, part after part: each return is a case of `writing`.
use mathlib.Core.Path.{◌≡◌, refl, ap, ◌∙◌}
use mathlib.Core.List.{List, [], ◌∷◌, ◌++◌, append_assoc}
use Prim.Native.Nat.{ℕ, ◌+◌, ◌-◌, ◌≤◌}
use native.Mathlib.Omega.{arith}
use lib.Dec.{T}
use lib.ListN.{length, drop, set, length-append}
use lib.Seq.{drop-drop}
use borrow.Rule.Slice.PartMut.{put_mid}
use Rattle.std.proofs.lemmas.Result.{err_from_is_err_and}
use Rattle.answers.specs.Table.{outcome}
use Rattle.answers.specs.Effect.{tested, at_start}
use Rattle.answers.specs.promises.Decides.{Silent}
use Rattle.answers.proofs.Lists.{put_next}
use Rattle.answers.proofs.Rows.{row_equal}
use Rattle.answers.proofs.Refusals.{never_done, done_silent}
use Rattle.answers.proofs.Effects.{gives_stopped, gives_short, gives_written}
use Rattle.messages.specs.declared.kinds.Short.{Short}
use Rattle.messages.specs.declared.kinds.Kind.TheVariants.{Short as of_short}
use Rattle.messages.specs.Kinds.{count_of}
use Rattle.messages.specs.Judge.{lent_operand_rows}
use Rattle.messages.specs.Layout.{message_of}
use Rattle.messages.specs.code.Sizes.{sized}
use Rattle.messages.proofs.Filed.{is_sized}
use Rattle.messages.proofs.Numbers.{given_refusals}
use Rattle.writing.proofs.write_short.Goals as goal

-- Bytes that passed their tests.
module _ (k : Short) (b : List ℕ) (e : outcome 0 0 ≡ tested (lent_operand_rows k.operands b)) where
  silent : Silent (lent_operand_rows k.operands b)
  silent = done_silent (lent_operand_rows k.operands b) 0 (given_refusals (of_short k) b []) e

  -- They are as many as the description says, so the message is as long.
  counted : T (sized (of_short k)) → k.length ≡ 5 + length b
  counted s =
      let whole = row_equal 7 (length b) (count_of k.operands) silent.0 in
      omega (arith, (is_sized (of_short k) s).0)

  size : T (sized (of_short k)) → length (message_of k.opcode b) ≡ k.length
  size s = omega (arith, length-append b (0xF7 ∷ []), counted s)

-- A message that is written in three parts: its first four bytes, its own bytes, and the last.
in_parts : (opcode : ℕ) (b out : List ℕ) (end : ℕ) → end ≡ 4 + length b → end + 1 ≤ length out
    → set (put_mid 4 (end - 4) ((0xF0 ∷ 0x10 ∷ 0x06 ∷ opcode ∷ []) ++ drop 4 out) b) end 0xF7 ≡ at_start (message_of opcode b) out
in_parts opcode b out end e room =
    let head = 0xF0 ∷ 0x10 ∷ 0x06 ∷ opcode ∷ [] in
    let n : end - 4 ≡ length b = omega arith in
    let own : put_mid 4 (end - 4) (head ++ drop 4 out) b ≡ (head ++ b) ++ drop end out = rw (n, e, drop-drop (length b) 4 out) refl in
    let lo : length (head ++ b) ≡ end = omega (arith, length-append head b) in
    let whole : end + 1 ≡ length (message_of opcode b) = omega (arith, length-append b (0xF7 ∷ [])) in
    ap (λ (xs : List ℕ). set xs end 0xF7) own ∙ put_next (head ++ b) out end 0xF7 lo (omega arith) ∙ rw (whole, append_assoc) refl

pub returns-in_err-test_operands : goal.returns-in_err-test_operands
returns-in_err-test_operands c =
    let k = c.args.kind in
    let b = c.args.bytes.now in
    let q = err_from_is_err_and c.from_residual.result c.from_residual.ensures.1 in
    rw (q.1, q.2)
    (gives_stopped (lent_operand_rows k.operands b) (message_of k.opcode b) c.args.out.now _ c.in_err-test_operands.ensures
    (never_done c.in_err-test_operands.field-0.0))

pub returns-then-out-kind : goal.returns-then-out-kind
returns-then-out-kind c =
    let k = c.args.kind in
    let b = c.args.bytes.now in
    let e = c.in_ok-test_operands.ensures in
    gives_short (lent_operand_rows k.operands b) (message_of k.opcode b) c.args.out.now k.length _ (size k b e c.requires) (silent k b e)
    c.if-out-kind.true refl

pub returns : goal.returns
returns c =
    let k = c.args.kind in
    let b = c.args.bytes.now in
    let e = c.in_ok-test_operands.ensures in
    let long = counted k b e c.requires in
    let parts = in_parts k.opcode b c.args.out.now (k.length - 1) (omega arith) (omega (arith, c.if-out-kind.false)) in
    gives_written (lent_operand_rows k.operands b) (message_of k.opcode b) c.args.out.now _ k.length _ (size k b e c.requires) (silent k b e)
    c.if-out-kind.false refl (rw (c.copy_from_slice.ensures.after, c.put_opening.ensures) parts)
