use mathlib.Core.Path.{ap}
use native.Mathlib.Omega.{arith}
use lib.ListN.{length}
use Rattle.std.proofs.Common.{rules}
use Rattle.listing.proofs.Steps.{some_call, no_call, no_step, one_more, same_room, piece_given}
use Rattle.listing.proofs.next_piece.Goals as goal
use Rattle.listing.proofs.next_piece.Goals.{then-loop-text-test+else-space-ge-LEAST_ROOM, else-loop-text-test}

pub loop-text-init : goal.loop-text-init
loop-text-init c = no_step c.args.s.now c.args.left c.new-text.result (omega arith)

pub loop-text-smaller : goal.loop-text-smaller
loop-text-smaller c =
    let some = some_call c.args.s.now c.loop-text.rest (search rules) in
    omega (arith, c.put_some-rest.ensures.fewer)

pub loop-text-preserved : goal.loop-text-preserved
loop-text-preserved c =
    one_more c.loop-text.invariant (omega arith) (some_call c.args.s.now c.loop-text.rest (search rules)) c.put_some-rest.ensures

pub returns-clause-gives_piece : goal.returns-clause-gives_piece
returns-clause-gives_piece c =
    let f = c.loop-text.invariant in
    let same = ap length c.new-text.ensures.bytes in
    piece_given f c.new-text.ensures.end c.new-text.ensures.bytes (search rules) c.end.ensures
    (λ h. elim c.loop-text-test.branch [
      | then-loop-text-test+else-space-ge-LEAST_ROOM w ↦ omega (arith, f.fewer (omega (arith, same_room f)))
      | else-loop-text-test w ↦ omega (arith, no_call c.args.s.now c.loop-text.rest (search rules))
    ])
