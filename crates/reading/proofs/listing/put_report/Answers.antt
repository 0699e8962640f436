-- `put_report` stores its numbers one after the other from the start of the room.
use Rattle.std.proofs.Common.{refl, [], arith, length-set}
use Rattle.answers.proofs.Lists.{puts_after}
use Rattle.reading.specs.code.Told.{numbers_told}
use Rattle.reading.proofs.listing.put_report.Goals as goal

pub returns : goal.returns
returns c =
    let room = c.args.room.now in
    rw c.numbers.ensures (puts_after [] (numbers_told c.args.r) room room 0 refl c.requires refl)
