-- The room is tested, and then the nibbles are put: each return is a case of `unpacking`.
use Rattle.std.proofs.Common.{refl, arith}
use Rattle.nibbles.proofs.Laws.{unpacking_short, unpacking_done}
use Rattle.nibbles.proofs.unpack_into.Goals as goal

pub returns-then-out-bytes : goal.returns-then-out-bytes
returns-then-out-bytes c = rw (unpacking_short c.args.bytes.now c.args.out.now (omega arith)) (record { result = refl; lent = refl })

pub returns : goal.returns
returns c = rw (unpacking_done c.args.bytes.now c.args.out.now (omega arith)) (record { result = refl; lent = c.put_nibbles.ensures })
