-- The dash; the search finds the number.
use Rattle.text.specs.Text.{ascii}
use Rattle.fields.specs.Fields.{parameter_of}
use Rattle.table_main.proofs.Texts.{text_found}
use Rattle.table_main.proofs.put_parameter.Goals as goal

pub returns-in-None : goal.returns-in-None
unfolding ascii
returns-in-None c = rw (text_found (parameter_of c.args.place) c.parameter_of.result c.parameter_of.ensures, c.in-None.is) c.put.ensures
