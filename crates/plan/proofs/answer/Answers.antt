-- The input's head, and the files behind it. Both stand in the input, one behind the other.
use mathlib.Core.Path.{◌≡◌, ap, subst}
use Prim.Native.Nat.{ℕ}
use native.Mathlib.Omega.{arith}
use lib.Dec.{eqb}
use Rattle.std.proofs.Common.{rules}
use Rattle.answers.proofs.Lists.{to_end}
use Rattle.plan.specs.Said.{Said, first_length}
use Rattle.plan.specs.code.Written.{PutsBoth}
use Rattle.plan.proofs.Told.{files, says}
use Rattle.plan.proofs.answer.Goals as goal

pub returns : goal.returns
returns c =
    let s = c.args.input.now in
    let n = c.number_of-size in
    let from = c.min-from in
    let to = c.min-to in
    let wants = ap (λ (x : ℕ). eqb x 1) c.byte_at-lines.ensures in
    let first : n.result ≡ first_length s = omega (arith, n.ensures.0, c.byte_at.ensures, c.byte_at-2.ensures, c.byte_at-3.ensures) in
    let p = c.answer_files-out in
    says c.new-text.ensures.end c.new-text.ensures.bytes (search rules) c.end.ensures
    (subst (λ (w : Said). PutsBoth w c.new-text.result p.new.text p.result)
    (files s _ _ n.result from.result to.result wants first from.ensures to.ensures (to_end to.result s)) p.ensures)
