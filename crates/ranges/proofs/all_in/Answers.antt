use Rattle.std.proofs.Common.{◌≡◌, length, sym, refl, ◌∙◌, arith, eq-eqb}
use Rattle.ranges.proofs.Passes.{whole, broken, seen_in, seen_all}
use Rattle.ranges.proofs.all_in.Goals.{then-not-in_row, else-not-in_row}
use Rattle.ranges.proofs.all_in.Goals as goal

pub loop-k-init : goal.loop-k-init
loop-k-init c = whole refl (λ k l u. absurd (omega arith))

pub loop-k-preserved : goal.loop-k-preserved
loop-k-preserved c =
    let a = c.args in
    let k = c.loop-k.k in
    elim c.if-not-in_row.branch [
      | then-not-in_row w ↦ broken w.all-is k (omega arith) (sym c.in_row.ensures ∙ w.if-not-in_row.true)
      | else-not-in_row w ↦ rw w.all-is (seen_in a.table.now a.bytes.now c.loop-k.all k c.loop-k.invariant (sym c.in_row.ensures ∙ w.if-not-in_row.false))
    ]

pub returns : goal.returns
returns c =
    let a = c.args in
    let end : c.loop-k.k ≡ length a.bytes.now = omega arith in
    rw (eq-eqb _ _ c.if-bytes-count.false) (seen_all a.table.now a.bytes.now c.loop-k.all (rw end at c.loop-k.invariant))
