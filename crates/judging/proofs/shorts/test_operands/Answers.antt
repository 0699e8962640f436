-- The count is tested, then the bytes are left to the edit's own tests, or to the operation's.
use mathlib.Core.Path.{◌≡◌, sym, ◌∙◌, ap}
use native.Mathlib.Omega.{arith}
use lib.ListN.{length}
use borrow.Author.Tests.{eq-eqb, ne_eqb}
use Rattle.messages.specs.Kinds.{count_of}
use Rattle.judging.proofs.shorts.test_operands.Goals.{In-BusEdit, In-Edit}
use Rattle.judging.proofs.shorts.test_operands.Goals as goal

pub returns-then-bytes-count : goal.returns-then-bytes-count
returns-then-bytes-count c =
    let args = c.args in
    let other : length args.bytes.now ≡ count_of args.operands → ⊥ = λ e. c.if-bytes-count.true (e ∙ sym c.count.ensures) in
    rw (ne_eqb (length args.bytes.now) (count_of args.operands) other)

-- The bytes are as many as the kind has.

edit_counted : (c : In-Edit) → length c.args.bytes.now ≡ 2
edit_counted c = c.if-bytes-count.false ∙ c.count.ensures ∙ ap count_of c.in-Edit.is

bus_counted : (c : In-BusEdit) → length c.args.bytes.now ≡ 4
bus_counted c = c.if-bytes-count.false ∙ c.count.ensures ∙ ap count_of c.in-BusEdit.is

pub bounds-bytes-0 : goal.bounds-bytes-0
bounds-bytes-0 c = omega (arith, edit_counted (goal.at.bounds-bytes-0 c).In-Edit)

pub bounds-bytes-1 : goal.bounds-bytes-1
bounds-bytes-1 c = omega (arith, edit_counted (goal.at.bounds-bytes-1 c).In-Edit)

pub bounds-bytes-0-in-BusEdit : goal.bounds-bytes-0-in-BusEdit
bounds-bytes-0-in-BusEdit c = omega (arith, bus_counted (goal.at.bounds-bytes-0-in-BusEdit c).In-BusEdit)

pub bounds-bytes-1-in-BusEdit : goal.bounds-bytes-1-in-BusEdit
bounds-bytes-1-in-BusEdit c = omega (arith, bus_counted (goal.at.bounds-bytes-1-in-BusEdit c).In-BusEdit)

pub bounds-bytes-2 : goal.bounds-bytes-2
bounds-bytes-2 c = omega (arith, bus_counted (goal.at.bounds-bytes-2 c).In-BusEdit)

pub bounds-bytes-3 : goal.bounds-bytes-3
bounds-bytes-3 c = omega (arith, bus_counted (goal.at.bounds-bytes-3 c).In-BusEdit)

pub returns-in-Edit : goal.returns-in-Edit
returns-in-Edit c = rw (c.in-Edit.is, eq-eqb _ 2 (edit_counted (goal.at.returns-in-Edit c).In-Edit)) c.test.ensures

pub returns-in-BusEdit : goal.returns-in-BusEdit
returns-in-BusEdit c =
    rw (c.in-BusEdit.is, eq-eqb _ 4 (bus_counted (goal.at.returns-in-BusEdit c).In-BusEdit)) c.test-in-BusEdit.ensures

pub returns-in-Operation : goal.returns-in-Operation
returns-in-Operation c =
    let args = c.args in
    let counted = c.if-bytes-count.false ∙ c.count.ensures in
    rw (eq-eqb (length args.bytes.now) (count_of args.operands) counted, c.in-Operation.is) c.test_operation.ensures
