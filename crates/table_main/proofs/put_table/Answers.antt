use native.Mathlib.Nat.{zero-add}
use native.Mathlib.Omega.{arith}
use mathlib.Core.Path.{◌≡◌}
use Rattle.text.proofs.Puts.{gains_none, gains_then, holds_emptied}
use Rattle.table_main.specs.Table.{places, table_rows, table_text}
use Rattle.table_main.proofs.Texts.{rows_more}
use Rattle.table_main.proofs.put_table.Goals as goal

pub loop-place-init : goal.loop-place-init
unfolding table_rows
loop-place-init c = gains_none _

pub loop-place-preserved : goal.loop-place-preserved
loop-place-preserved c =
    let l = c.loop-place in
    rw (rows_more l.place 0, zero-add l.place) (gains_then l.invariant c.put_field.ensures)

pub returns : goal.returns
unfolding table_text
returns c =
    let l = c.loop-place in
    let all : places ≡ l.place = omega arith in
    holds_emptied c.clear.ensures (rw all l.invariant)
