-- Patch after patch is tested. The invariant: the lowest bad patch of the bank is the lowest bad one of those that are left.
use mathlib.Core.Path.{◌≡◌}
use Prim.Native.Nat.{◌-◌, ◌*◌, ◌/◌}
use lib.ListN.{length, drop}
use Rattle.writing.specs.Writing.{first_bad}
use Rattle.writing.proofs.test_bank.Given as goal

abbrev pub invariant-loop-place : goal.invariant-loop-place
invariant-loop-place l =
    first_bad (length l.ps / 134) 0 l.ps ≡ first_bad (length l.ps / 134 - l.place) l.place (drop (l.place * 134) l.ps)
