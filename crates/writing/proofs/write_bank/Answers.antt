-- The length, every patch and the room are tested in this order, and then the bank is written: each return is a case of `writing_bank`.
use mathlib.Core.Path.{◌≡◌, refl, ap, sym, ◌∙◌}
use mathlib.Core.List.{List, []}
use Prim.Native.Nat.{ℕ, ◌*◌, ◌/◌, ◌%◌, ◌≤◌}
use native.Mathlib.Omega.{arith}
use lib.ListN.{length}
use borrow.Author.Tests.{eq-eqb, ne_eqb, lt-ltb}
use Rattle.std.proofs.lemmas.Result.{err_from_is_err_and}
use Rattle.answers.specs.declared.Placed.{Placed}
use Rattle.answers.specs.Table.{outcome}
use Rattle.answers.specs.Effect.{told_as, written, no_place}
use Rattle.answers.specs.code.Found.{found_or}
use Rattle.answers.proofs.Refusals.{never_done}
use Rattle.answers.proofs.Effects.{gives_placed, placed_short, placed_written}
use Rattle.writing.specs.Writing.{writing_bank, bank_bytes, first_bad}
use Rattle.writing.proofs.Laws.{length_bank, bank_is_tested, none_bad}
use Rattle.writing.proofs.write_bank.Goals.{then-ps-ne0-via-then-ps-ne0, then-ps-ne0-via-else-ps-ne0+then-ps-gt-BANK}
use Rattle.writing.proofs.write_bank.Goals as goal

pub returns-then-ps-ne0 : goal.returns-then-ps-ne0
unfolding writing_bank
returns-then-ps-ne0 c =
    rw c.into.ensures
    (elim c.then-ps-ne0.branch [
      | then-ps-ne0-via-then-ps-ne0 w ↦ rw (ne_eqb _ 0 w.if-ps-ne0.true) (record { result = refl; lent = refl })
      | then-ps-ne0-via-else-ps-ne0+then-ps-gt-BANK w ↦
          rw (eq-eqb _ 0 w.if-ps-ne0.false, lt-ltb 13400 _ w.if-ps-gt-BANK.true) (record { result = refl; lent = refl })
    ])

-- The length has passed.
module _ (ps out : List ℕ) (whole : length ps % 134 ≡ 0) (few : length ps ≤ 13400) where
  -- Every patch has passed.
  all_tested : no_place (outcome 0 0) ≡ found_or (first_bad (length ps / 134) 0 ps)
      → writing_bank ps out ≡ told_as no_place (written [] (bank_bytes ps) out)
  all_tested e =
      let n = none_bad (length ps / 134) 0 ps (sym (ap (λ (o : Placed). o.outcome.answer) e)) in
      bank_is_tested ps out whole few ∙ rw n

  size : length (bank_bytes ps) ≡ length ps / 134 * 275
  size = length_bank (length ps / 134) 0 ps (omega arith)

pub returns-in_err-test_bank : goal.returns-in_err-test_bank
returns-in_err-test_bank c =
    let ps = c.args.ps.now in
    let out = c.args.out.now in
    let q = err_from_is_err_and c.from_residual.result c.from_residual.ensures.1 in
    rw (q.1, q.2, bank_is_tested ps out c.if-ps-ne0.false c.if-ps-gt-BANK.false)
    (gives_placed (first_bad (length ps / 134) 0 ps) out (told_as no_place (written [] (bank_bytes ps) out)) _ c.in_err-test_bank.ensures
    (never_done c.in_err-test_bank.field-0.0.refusal))

pub returns-then-out-size : goal.returns-then-out-size
returns-then-out-size c =
    let ps = c.args.ps.now in
    let out = c.args.out.now in
    let whole = c.if-ps-ne0.false in
    let few = c.if-ps-gt-BANK.false in
    rw (all_tested ps out whole few c.in_ok-test_bank.ensures, c.into-then-out-size.ensures)
    (placed_short [] (bank_bytes ps) out (length ps / 134 * 275) _ (size ps out whole few) tt c.if-out-size.true refl)

pub returns : goal.returns
returns c =
    let ps = c.args.ps.now in
    let out = c.args.out.now in
    let whole = c.if-ps-ne0.false in
    let few = c.if-ps-gt-BANK.false in
    rw (all_tested ps out whole few c.in_ok-test_bank.ensures)
    (placed_written [] (bank_bytes ps) out c.put_bank.new.out (length ps / 134 * 275) _ (size ps out whole few) tt c.if-out-size.false c.put_bank.ensures refl)
