-- The tests in the order of the rows: bus and amount, the three places from the lowest up, by the rows of bus 0, then the rule of a bus.
-- The first that fails gives the answer; where none does, the three bytes are stored.
use mathlib.Core.Path.{◌≡◌, refl, sym, ◌∙◌}
use native.Mathlib.Omega.{arith}
use borrow.Author.Tests.{lt-ltb, le-ltb}
use mir.Facts.{to_z-of_z}
use Rattle.ranges.specs.Ranges.{out_from}
use Rattle.std.proofs.Common.{rules}
use mathlib.Core.List.{[], ◌∷◌}
use Prim.Native.Nat.{suc, ◌+◌, ◌*◌}
use mir.Syntax.{w16}
use mir.Val.{SFits}
use Rattle.ranges.proofs.Found.{found_value, found_no_value}
use Rattle.ranges.proofs.Runs.{lowest_out}
use Rattle.fields.specs.Fields.{fields}
use Rattle.fields.specs.code.Lookups.{bus_table}
use Rattle.edits.specs.Edits.{extended, bus_rows, with_bus}
use Rattle.edits.proofs.Tests.{bus_rows_at}
use Rattle.edits.proofs.Matrix.change.Goals as goal

pub returns-then-self-gt-LAST_BUS : goal.returns-then-self-gt-LAST_BUS
unfolding bus_rows
returns-then-self-gt-LAST_BUS c = record { told = simp (lt-ltb _ _ c.if-self-gt-LAST_BUS.true); stores = tt }

pub returns-then-self-gt127 : goal.returns-then-self-gt127
unfolding bus_rows
returns-then-self-gt127 c =
    record { told = simp (le-ltb _ _ c.if-self-gt-LAST_BUS.false, lt-ltb _ _ c.if-self-gt127.true); stores = tt }

pub overflow_add-result : goal.overflow_add-result
unfolding fields
overflow_add-result c =
    let a = c.args.self in
    let bytes = a.source ∷ extended a.amount ∷ a.destination ∷ [] in
    let here = found_value (out_from bus_table 0 bytes) c.in-Some.found (rw c.extend.ensures at c.in-Some.ensures) in
    omega (arith, ((lowest_out bus_table 0 bytes).some_out _ _ here).below)

pub returns-in-Some : goal.returns-in-Some
unfolding fields
returns-in-Some c =
    let a = c.args.self in
    let here = found_value _ c.in-Some.found (rw c.extend.ensures at c.in-Some.ensures) in
    let rows = bus_rows_at a.bus a.source a.amount a.destination _ c.if-self-gt-LAST_BUS.false c.if-self-gt127.false here in
    let small : SFits w16 c.in-Some.found.value = search rules in
    rw (rows, to_z-of_z small) (record { told = refl; stores = tt })

pub returns-then-half_used : goal.returns-then-half_used
unfolding fields
returns-then-half_used c =
    let a = c.args.self in
    let none_here = found_no_value _ (rw c.extend.ensures at c.in_default.ensures) in
    let rows = bus_rows_at a.bus a.source a.amount a.destination _ c.if-self-gt-LAST_BUS.false c.if-self-gt127.false none_here in
    let half = sym c.half_used.ensures ∙ c.if-half_used.true in
    rw (rows, half) (record { told = refl; stores = tt })

pub returns : goal.returns
unfolding fields with_bus
returns c =
    let a = c.args.self in
    let none_here = found_no_value _ (rw c.extend.ensures at c.in_default.ensures) in
    let rows = bus_rows_at a.bus a.source a.amount a.destination _ c.if-self-gt-LAST_BUS.false c.if-self-gt127.false none_here in
    let whole = sym c.half_used.ensures ∙ c.if-half_used.false in
    let second : suc (104 + 3 * a.bus) ≡ 105 + 3 * a.bus = omega arith in
    let third : suc (105 + 3 * a.bus) ≡ 106 + 3 * a.bus = omega arith in
    record { told = rw (rows, whole) refl; stores = λ p. rw (second, third, c.extend.ensures) refl }
