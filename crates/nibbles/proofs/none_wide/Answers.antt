use Rattle.std.proofs.Common.{Bool, true, false, ◌≡◌, ◌∙◌, sym, arith}
use Rattle.nibbles.proofs.Passing.{wide_passed, wide_end}
use Rattle.nibbles.proofs.none_wide.Goals.{then-b-gt15, else-b-gt15}
use Rattle.nibbles.proofs.none_wide.Goals as goal

pub loop-b-preserved : goal.loop-b-preserved
loop-b-preserved c =
    elim c.if-b-gt15.branch [
      | then-b-gt15 w ↦ λ z. let y : ◌≡◌ {A = Bool} true false = sym z ∙ w.narrow-is in cc
      | else-b-gt15 w ↦ λ z. c.loop-b.invariant (sym w.narrow-is ∙ z) ∙ wide_passed c.args.sent.now c.loop-b.b-index (omega arith) w.if-b-gt15.false
    ]

pub returns : goal.returns
returns c = λ e. c.loop-b.invariant e ∙ wide_end c.args.sent.now c.loop-b.b-index (omega arith)
