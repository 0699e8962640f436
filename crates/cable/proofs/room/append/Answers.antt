-- `append` puts the bytes behind those that are there, as many as fit: all of them where none is real time.
use native.Mathlib.Omega.{arith}
use Rattle.streams.specs.Bytes.{without_real_time}
use Rattle.streams.proofs.Noise.{all_kept}
use Rattle.cable.proofs.Kept.{kept_behind}
use Rattle.cable.proofs.room.append.Goals as goal

pub returns-then-noise-eq0 : goal.returns-then-noise-eq0
returns-then-noise-eq0 c =
    let a = c.args in
    rw (all_kept a.more.now (omega (arith, c.requires)))
    (kept_behind a.room.now a.more.now a.count _ c.min-count.ensures _ _ c.put_all.ensures)

pub returns : goal.returns
returns c =
    let a = c.args in
    kept_behind a.room.now (without_real_time a.more.now) a.count _ c.min-count.ensures _ _ c.put_quiet.ensures
