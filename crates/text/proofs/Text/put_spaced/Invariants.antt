-- The numbers passed are put.
use lib.ListN.{take}
use Rattle.text.specs.Text.{spaced, Gains}
use Rattle.text.proofs.Text.put_spaced.Given as goal

abbrev pub invariant-loop-n : goal.invariant-loop-n
invariant-loop-n l = Gains (spaced (take l.n-index l.numbers)) l.initial.self l.self
