-- `gather` packs pair by pair, passes over real time, and stops at a byte above 15.
use Prim.Native.Nat.{◌-◌}
use lib.ListN.{length}
use Rattle.streams.specs.Bytes.{without_real_time}
use Rattle.judging.specs.code.Content.{sent_in}
use Rattle.judging.proofs.Gathering.{Underway}
use Rattle.judging.proofs.content.gather.Given as goal

abbrev pub invariant-loop-k : goal.invariant-loop-k
invariant-loop-k l = Underway (sent_in (length l.initial.packed) (without_real_time l.body)) l.body l.initial.packed l.packed l.at l.k

abbrev pub decreases-loop-k : goal.decreases-loop-k
decreases-loop-k l = length l.body - l.at
