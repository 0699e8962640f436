-- By what the lookup found: its byte, or 255.
use Rattle.fields.specs.Fields.{place_of}
use Rattle.exports.proofs.Lookups.{place_told}
use Rattle.exports.proofs.matrix_place_of.Goals as goal

pub returns-in-Some : goal.returns-in-Some
returns-in-Some c =
    place_told (place_of c.args.parameter) _ _ c.in-Some.is c.place_of.ensures

pub returns-in-None : goal.returns-in-None
returns-in-None c =
    place_told (place_of c.args.parameter) _ _ c.in-None.is c.place_of.ensures
