-- The example, computed.
use mathlib.Core.Path.{refl}
use Rattle.text.specs.Text.{ascii, digits_of}
use Rattle.ranges.specs.Values.{value_of, value_by}
use Rattle.fields.specs.Fields.{fields}
use Rattle.pairs.specs.Pairs.{same_bytes}
use Rattle.edit_lists.specs.Plan.{parts_from, parts, differing}
use Rattle.plan.specs.Said.{lines_for, change_lines}
use Rattle.plan.specs.promises.Example.{Lines}

pub lines : Lines
unfolding change_lines lines_for differing parts parts_from same_bytes fields value_by value_of ascii digits_of
lines = refl
