-- The bytes passed are put.
use lib.ListN.{take}
use Rattle.text.specs.Text.{Gains}
use Rattle.text.proofs.Text.put.Given as goal

abbrev pub invariant-loop-b : goal.invariant-loop-b
invariant-loop-b l = Gains (take l.b-index l.bytes) l.initial.self l.self
