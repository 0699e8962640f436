-- The one file, then the other, then both patches.
use Rattle.std.proofs.Common.{sym, ◌∙◌}
use Rattle.text.specs.Text.{ascii}
use Rattle.text.proofs.Puts.{gains_then}
use Rattle.plan.proofs.Lines.{err_alone}
use Rattle.plan.proofs.Told.{first_fails, second_fails, both_found}
use Rattle.plan.proofs.answer_files.Goals as goal

pub returns-in-Err : goal.returns-in-Err
unfolding ascii
returns-in-Err c =
    let k = c.args in
    let i = c.in-Err in
    rw (first_fails k.lines k.returned.now k.lent.now i.wrong (sym i.is ∙ c.find_patch.ensures))
    (err_alone c.end-start.ensures (gains_then c.put.ensures c.put_wrong.ensures))

pub returns-in-Err-find_patch : goal.returns-in-Err-find_patch
unfolding ascii
returns-in-Err-find_patch c =
    let k = c.args in
    let a = c.in-Ok in
    let i = c.in-Err-find_patch in
    rw (second_fails k.lines k.returned.now k.lent.now a.a (sym a.is ∙ c.find_patch.ensures) i.wrong (sym i.is ∙ c.find_patch-in-Ok.ensures))
    (err_alone c.end-start.ensures (gains_then c.put-in-Err-find_patch.ensures c.put_wrong-in-Err-find_patch.ensures))

pub returns-in-Ok-find_patch : goal.returns-in-Ok-find_patch
returns-in-Ok-find_patch c =
    let k = c.args in
    let a = c.in-Ok in
    let b = c.in-Ok-find_patch in
    rw (both_found k.lines k.returned.now k.lent.now a.a (sym a.is ∙ c.find_patch.ensures) b.b (sym b.is ∙ c.find_patch-in-Ok.ensures))
    c.put_proposal.ensures
