-- Where the pass says that every byte lies in its range, none is out of range. Else the lowest place out of range is that of the bytes from the
-- one at hand on.
use Rattle.std.proofs.Common.{◌≡◌, drop}
use Rattle.fields.specs.Fields.{fields}
use Rattle.ranges.specs.Ranges.{out_from}
use Rattle.patch.specs.Patch.{first_out}
use Rattle.patch.proofs.first_out.Given as goal

abbrev pub invariant-loop-k : goal.invariant-loop-k
invariant-loop-k l = first_out l.p ≡ out_from fields l.k (drop l.k l.p)
