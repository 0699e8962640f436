use Rattle.planner.proofs.Message.{in_parts}
use Rattle.planner.proofs.put_message.Goals as goal

pub returns : goal.returns
returns c =
    rw (c.copy_from_slice.ensures.after, c.copy_from_slice-2.ensures.after)
    (in_parts c.args.opcode c.args.operands.now c.args.out.now c.requires)
