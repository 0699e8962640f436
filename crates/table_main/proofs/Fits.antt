-- The table has room in the buffer: its length is computed.
use mathlib.Core.Path.{refl}
use lib.ListN.{length}
use borrow.Author.Tests.{leb-true}
use Rattle.text.specs.Text.{ascii, digits_of}
use Rattle.fields.specs.Fields.{fields, parameter_of}
use Rattle.ranges.specs.Values.{value_of, value_by}
use Rattle.table_main.specs.Table.{table_row, table_rows, table_text, TableFits}

pub table_fits : TableFits
unfolding table_text table_rows table_row ascii digits_of fields parameter_of value_of value_by
table_fits = leb-true (length table_text) 4096 refl
