use Rattle.std.proofs.Common.{◌≡◌, ◌*◌, ◌/◌, ◌%◌, [], ◌∷◌, length, get_or, take, refl, ◌∙◌, arith, length-take-le}
use lib.Seq.{take-length}
use Rattle.answers.proofs.Copied.{copied_next}
use Rattle.nibbles.specs.Nibbles.{nibbles}
use Rattle.nibbles.proofs.Laws.{length_nibbles, nibbles_take}
use Rattle.nibbles.proofs.put_nibbles.Goals as goal

pub loop-i-init : goal.loop-i-init
unfolding nibbles
loop-i-init c = (omega arith, refl, refl)

pub loop-i-preserved : goal.loop-i-preserved
loop-i-preserved c =
    let p = c.args.bytes.now in
    let at = c.loop-i in
    let i = at.i in
    let long : length (nibbles (take i p)) ≡ 2 * i = omega (arith, length_nibbles (take i p), length-take-le i p (omega arith)) in
    copied_next (λ k. nibbles (take k p)) (length p) c.args.out.now at.out i at.invariant (omega arith) (2 * i) (get_or p i 0 % 16 ∷ get_or p i 0 / 16 ∷ [])
    long (nibbles_take p i (omega arith)) (omega (arith, c.requires))

pub returns : goal.returns
returns c =
    let p = c.args.bytes.now in
    let e : c.loop-i.i ≡ length p = omega arith in
    c.loop-i.invariant.2 ∙ simp (e, take-length, length_nibbles)
