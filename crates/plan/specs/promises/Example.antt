-- The lines for the example of `edit_lists`: detune to -32, parameter 21 to 127, bus 0 to source 1, amount -1, destination 1.
use Rattle.std.specs.Prelude.{◌≡◌}
use Rattle.text.specs.Text.{ascii}
use Rattle.edit_lists.specs.promises.Example.{from, to}
use Rattle.plan.specs.Said.{change_lines}

abbrev pub Lines : Type 0
Lines = change_lines from to ≡ ascii "19 parameter 12 0 -32\n26 parameter 21 0 127\n104 bus 0 0 0 0 1 -1 1\n"
