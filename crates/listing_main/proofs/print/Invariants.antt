-- `print` asks for piece after piece. What is written and what is left are the listing, and the room takes a step. The measure is how many calls
-- may follow.
use mathlib.Core.Path.{◌≡◌}
use mathlib.Core.List.{List, ◌++◌}
use Prim.Native.Nat.{ℕ, ◌≤◌}
use lib.ListN.{length}
use Rattle.std.specs.Io.KnownBytes.{Appends}
use Rattle.listing.specs.Listing.{listing_of}
use Rattle.listing.specs.code.Pieces.{left_of, least_room, calls_left}
use Rattle.listing_main.proofs.print.Given as goal

abbrev pub invariant-loop-left : goal.invariant-loop-left
invariant-loop-left g l = record {
  room : least_room ≤ length l.room;
  written : (w : List ℕ) × Appends (g.W.Write.contents l.initial.out) (g.W.Write.contents l.out) w × (listing_of l.s ≡ w ++ left_of l.s l.left);
}

abbrev pub decreases-loop-left : goal.decreases-loop-left
decreases-loop-left g l = calls_left l.s l.left
