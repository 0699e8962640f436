-- The dump and the room are tested in this order, and then the dump is written: each return is a case of `written`.
use mathlib.Core.Path.{◌≡◌, refl}
use mathlib.Core.List.{List}
use Prim.Native.Nat.{ℕ}
use native.Mathlib.Omega.{arith}
use lib.Dec.{T}
use lib.ListN.{length}
use Rattle.std.proofs.lemmas.Result.{err_from_is_err_and}
use Rattle.answers.specs.Table.{outcome}
use Rattle.answers.specs.Effect.{tested}
use Rattle.answers.specs.promises.Decides.{Silent}
use Rattle.answers.proofs.Rows.{row_equal}
use Rattle.answers.proofs.Refusals.{never_done, done_silent}
use Rattle.answers.proofs.Effects.{gives_stopped, gives_short, gives_written}
use Rattle.messages.specs.declared.kinds.Dump.{Dump}
use Rattle.messages.specs.declared.kinds.Kind.TheVariants.{Dump as of_dump}
use Rattle.messages.specs.Kinds.{size_of}
use Rattle.messages.specs.Layout.{dump, dump_given}
use Rattle.messages.specs.code.Sizes.{sized}
use Rattle.messages.proofs.Filed.{is_sized}
use Rattle.messages.proofs.Numbers.{dump_given_refusals}
use Rattle.writing.proofs.Laws.{length_dump}
use Rattle.writing.proofs.write_dump.Goals as goal

-- A dump that passed its tests.
module _ (k : Dump) (n : ℕ) (p : List ℕ) (e : outcome 0 0 ≡ tested (dump_given k n p)) where
  silent : Silent (dump_given k n p)
  silent = done_silent (dump_given k n p) 0 (dump_given_refusals k n p) e

  -- The packed bytes are as many as the description says, so the dump is as long.
  size : T (sized (of_dump k)) → length (dump k.opcode n p) ≡ k.length
  size s =
      let whole = row_equal 7 (length p) (size_of k.packed) silent.0 in
      omega (arith, length_dump k.opcode n p, (is_sized (of_dump k) s).0)

pub returns-in_err-test_dump : goal.returns-in_err-test_dump
returns-in_err-test_dump c =
    let a = c.args in
    let q = err_from_is_err_and c.from_residual.result c.from_residual.ensures.1 in
    rw (q.1, q.2)
    (gives_stopped (dump_given a.kind a.number a.p.now) (dump a.kind.opcode a.number a.p.now) a.out.now _ c.in_err-test_dump.ensures
    (never_done c.in_err-test_dump.field-0.0))

pub returns-then-out-kind : goal.returns-then-out-kind
returns-then-out-kind c =
    let a = c.args in
    let e = c.in_ok-test_dump.ensures in
    gives_short (dump_given a.kind a.number a.p.now) (dump a.kind.opcode a.number a.p.now) a.out.now a.kind.length _
    (size a.kind a.number a.p.now e c.requires) (silent a.kind a.number a.p.now e) c.if-out-kind.true refl

pub returns : goal.returns
returns c =
    let a = c.args in
    let e = c.in_ok-test_dump.ensures in
    gives_written (dump_given a.kind a.number a.p.now) (dump a.kind.opcode a.number a.p.now) a.out.now c.put_dump.new.out a.kind.length _
    (size a.kind a.number a.p.now e c.requires) (silent a.kind a.number a.p.now e) c.if-out-kind.false refl c.put_dump.ensures
