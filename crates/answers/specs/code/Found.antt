-- What a search for a refusal tells.
use Rattle.std.proofs.Math.Option.{Option, none, some}
use Rattle.answers.specs.declared.Placed.{Placed}
use Rattle.answers.specs.Table.{outcome}
use Rattle.answers.specs.Effect.{no_place}

-- The refusal that is found, with its place; done with zeros where there is none.
abbrev pub found_or : Option Placed → Placed
found_or none = no_place (outcome 0 0)
found_or (some r) = r
