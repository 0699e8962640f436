-- What the pass over the parts in which two patches differ has left.
use Rattle.std.specs.Prelude.{List, ℕ}
use Rattle.edit_lists.specs.Plan.{differing}
use Rattle.edit_lists.specs.code.Left.{parts_left}
use Rattle.planner.specs.declared.parts.Differing.{Differing}

-- Those that it has not yielded, each by its place.
unfoldable pub left : Differing → List ℕ
left d = differing (parts_left d.at) d.a.now d.b.now
