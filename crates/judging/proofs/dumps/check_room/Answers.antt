-- The data and the sum, then the packed bytes, which are as many as the description says.
use Rattle.std.proofs.Common.{◌≡◌, length, ◌∙◌, refl, arith, eq-eqb}
use Rattle.std.proofs.lemmas.Result.{err_from_is_err_and}
use Rattle.answers.proofs.Refusals.{never_done}
use Rattle.messages.specs.Kinds.{size_of}
use Rattle.judging.proofs.Data.{data_stopped, data_left}
use Rattle.judging.proofs.dumps.check_room.Goals as goal

pub check_data-requires : goal.check_data-requires
check_data-requires c = omega (arith, c.requires)

pub returns-in_err-check_data : goal.returns-in_err-check_data
returns-in_err-check_data c =
    let p = err_from_is_err_and c.from_residual.result c.from_residual.ensures.1 in
    let checked = rw c.requires.1 at c.in_err-check_data.ensures in
    rw (p.1, p.2) (data_stopped c.args.packed _ _ c.check_data.new.packed _ checked (never_done c.in_err-check_data.field-0.0))

pub returns : goal.returns
returns c =
    let room = c.check_data.new.packed in
    let fits : length room ≡ size_of c.args.packed = c.check_data.auto.packed ∙ c.requires.1 in
    let checked = rw c.requires.1 at c.in_ok-check_data.ensures in
    (rw (eq-eqb (length room) (size_of c.args.packed) fits) at c.test_packed.ensures) ∙ data_left c.args.packed _ _ room _ checked refl
