-- Message after message is followed. The invariant: the last patch of the list is that of the bytes that are left, from the patch at hand.
use Rattle.std.proofs.Common.{◌≡◌, length}
use Rattle.edit_lists.specs.promises.Shortest.{Good}
use Rattle.checker.specs.code.Steps.{last_patch}
use Rattle.checker.proofs.turn.Given as goal

abbrev pub invariant-loop-rest : goal.invariant-loop-rest
invariant-loop-rest l =
    (length l.p ≡ length l.initial.p) × (last_patch l.list l.initial.p ≡ last_patch l.rest l.p) × Good l.p

abbrev pub decreases-loop-rest : goal.decreases-loop-rest
decreases-loop-rest l = length l.rest
