use lib.Seq.{get_or-drop}
use Rattle.std.proofs.lemmas.Option.{unwrap_or-slice_get}
use Rattle.judging.specs.code.Counted.{content_of}
use Rattle.judging.proofs.shorts.first_four.Goals as goal

pub returns : goal.returns
returns c =
    let m = content_of c.args.content in
    rw (get_or-drop 3 m 0 0, get_or-drop 3 m 1 0, get_or-drop 3 m 2 0, get_or-drop 3 m 3 0)
    (rw (
      c.unwrap_or.ensures,
      c.unwrap_or-2.ensures,
      c.unwrap_or-3.ensures,
      c.unwrap_or-4.ensures,
      c.get.ensures,
      c.get-2.ensures,
      c.get-3.ensures,
      c.get-4.ensures,
      unwrap_or-slice_get m 3 0,
      unwrap_or-slice_get m 4 0,
      unwrap_or-slice_get m 5 0,
      unwrap_or-slice_get m 6 0,
    ))
