-- The lines of the places passed are put.
use Rattle.text.specs.Text.{Gains}
use Rattle.table_main.specs.Table.{table_rows}
use Rattle.table_main.proofs.put_table.Given as goal

abbrev pub invariant-loop-place : goal.invariant-loop-place
invariant-loop-place l = Gains (table_rows l.place 0) l.initial.text l.text
