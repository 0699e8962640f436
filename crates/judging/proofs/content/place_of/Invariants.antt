-- Byte by byte: the one at the count of turns stands at the place at hand. Where the first four are quiet, each of them stands at its own index.
use Rattle.judging.specs.code.Content.{StandsAt}
use Rattle.judging.proofs.content.place_of.Given as goal

abbrev pub invariant-loop : goal.invariant-loop
invariant-loop l = StandsAt l.body l.counter l.at
