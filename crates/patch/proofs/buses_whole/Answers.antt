use Rattle.std.proofs.Common.{◌≡◌, arith}
use borrow.Author.Tests.{not-true}
use Rattle.patch.proofs.Passes.{all_whole}
use Rattle.patch.proofs.buses_whole.Goals as goal

pub returns : goal.returns
returns c = let end : c.loop-j.j ≡ 28 = omega arith in λ e. all_whole c.args.p.now (rw end at (c.loop-j.invariant (not-true _ e)))
