-- The lowest bus half used is that of the buses from the one at hand on.
use Rattle.std.proofs.Common.{◌≡◌, ◌-◌}
use Rattle.patch.specs.Patch.{first_half, half_from}
use Rattle.patch.proofs.first_half.Given as goal

abbrev pub invariant-loop-bus : goal.invariant-loop-bus
invariant-loop-bus l = first_half l.p ≡ half_from (10 - l.bus) l.bus l.p
