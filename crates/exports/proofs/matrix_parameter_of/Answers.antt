-- By what the lookup found: its byte, or 255.
use Rattle.fields.specs.Fields.{parameter_of}
use Rattle.exports.proofs.Lookups.{parameter_told}
use Rattle.exports.proofs.matrix_parameter_of.Goals as goal

pub returns-in-Some : goal.returns-in-Some
returns-in-Some c =
    parameter_told (parameter_of c.args.place) _ _ c.in-Some.is c.parameter_of.ensures

pub returns-in-None : goal.returns-in-None
returns-in-None c =
    parameter_told (parameter_of c.args.place) _ _ c.in-None.is c.parameter_of.ensures
