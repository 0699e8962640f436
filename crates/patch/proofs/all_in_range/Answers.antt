-- The two passes together see every byte.
use Rattle.std.proofs.Common.{◌≡◌, arith}
use borrow.Author.Tests.{not-true}
use Rattle.ranges.proofs.Passes.{rows_join}
use Rattle.fields.specs.Fields.{fields}
use Rattle.patch.proofs.Passes.{all_in}
use Rattle.patch.proofs.all_in_range.Goals as goal

pub returns : goal.returns
returns c =
    let p = c.args.p.now in
    let end : c.loop-k-2.k ≡ 134 = omega arith in
    λ e. let seen = c.loop-k-2.invariant (not-true _ e) in all_in p (omega arith) (rows_join fields p 0 128 118 134 (omega arith) seen.0 (rw end at seen.1))
