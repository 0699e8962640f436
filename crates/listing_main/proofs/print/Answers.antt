use mathlib.Core.Path.{◌≡◌, refl, sym, subst, ◌∙◌}
use mathlib.Core.List.{List, [], ◌++◌, append_assoc, append-nil}
use Prim.Native.Nat.{ℕ}
use native.Mathlib.Omega.{arith}
use lib.ListN.{length, take, drop}
use lib.Seq.{take_at}
use Rattle.std.proofs.Common.{rules}
use Rattle.std.specs.Prelude.{Option}
use Rattle.std.specs.Io.KnownBytes.{Appends}
use Rattle.std.proofs.KnownBytes.{Appends-nil, Appends-trans}
use Rattle.listing.specs.Listing.{listing_of}
use Rattle.listing.specs.code.Pieces.{left_of, GivesPiece}
use Rattle.listing.specs.declared.Left.{Left}
use Rattle.listing.specs.declared.Left.TheVariants.{Nothing}
use Rattle.listing.specs.declared.Piece.{Piece}
use Rattle.listing.proofs.Steps.{some_call}
use Rattle.listing_main.proofs.print.Goals as goal

-- What went from one state of the writer to another, with what is left, is the listing.
abbrev Written : Option (List ℕ) → Option (List ℕ) → List ℕ → Left → Type 0
Written old new s left = (w : List ℕ) × Appends old new w × (listing_of s ≡ w ++ left_of s left)

-- One piece more.
more : {s : List ℕ} {left : Left} {room new : List ℕ} {p : Piece} (a b c : Option (List ℕ)) → Written a b s left → GivesPiece s left room new p
    → Appends b c (take p.len new) → Written a c s p.left
more {s} {left} {room} {new} {p} a b c v g put =
    let piece : take p.len new ≡ g.piece = rw g.room (take_at g.piece (drop (length g.piece) room) p.len (sym g.len)) in (
      v.0 ++ g.piece,
      Appends-trans a b c v.0 g.piece v.1 (rw piece at put),
      v.2 ∙ rw g.text (sym (append_assoc v.0 g.piece (left_of s p.left))),
    )

-- Nothing is left.
all_written : (s : List ℕ) (a b : Option (List ℕ)) (left : Left) → left ≡ Nothing → Written a b s left → Appends a b (listing_of s)
unfolding left_of
all_written s a b left e v = subst (Appends a b) (sym (v.2 ∙ rw (e, left_of) (append-nil v.0))) v.1

pub loop-left-init : goal.loop-left-init
unfolding left_of
loop-left-init g c = record { room = omega arith; written = ([], Appends-nil _, refl) }

pub loop-left-preserved : goal.loop-left-preserved
loop-left-preserved g c =
    record {
      room = omega arith;
      written = more _ _ _ c.loop-left.invariant.written c.next_piece-piece.ensures.gives_piece c.in_ok-write_all.ensures.bytes;
    }

pub loop-left-smaller : goal.loop-left-smaller
loop-left-smaller g c =
    let some = some_call c.args.s.now c.loop-left.left (search rules) in
    omega (arith, c.next_piece-piece.ensures.gives_piece.fewer (omega arith))

pub returns : goal.returns
returns g c = all_written c.args.s.now _ _ c.loop-left.left (search rules) c.loop-left.invariant.written
