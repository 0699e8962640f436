-- The byte where it stands: at its own index; or among real time, the last one found from the end.
use Rattle.std.proofs.Common.{◌<◌, length, ap, arith}
use Rattle.std.proofs.lemmas.Option.{slice_get-get_or}
use Rattle.streams.specs.Bytes.{without_real_time}
use Rattle.judging.proofs.Places.{stands_byte, content_left}
use Rattle.judging.proofs.content.Content.get.Goals as goal

pub returns : goal.returns
returns c =
    let a = c.args in
    let left = content_left a.self.count a.self.body.now c.if-self.false in
    let long : a.i < length (without_real_time a.self.body.now) = omega (arith, ap length left, a.self.counted) in
    rw (left, slice_get-get_or (without_real_time a.self.body.now) a.i 0 long, stands_byte a.self.body.now a.i c.place_of.result c.place_of.ensures)
