-- The pieces of calls joined are what was left at the first of them: it goes by the calls.
use mathlib.Core.Path.{◌≡◌, sym}
use mathlib.Core.List.{List, [], ◌∷◌}
use Prim.Native.Nat.{ℕ}
use lib.ListN.{length, take, drop}
use lib.Seq.{take_at}
use Rattle.listing.specs.code.Pieces.{left_of, Call, Calls, joined, PiecesJoined}
use Rattle.listing.specs.declared.Left.{Left}
use Rattle.listing.specs.declared.Left.TheVariants.{Whole}

calls_joined : (s : List ℕ) (left : Left) (cs : List Call) → Calls s left cs → joined cs ≡ left_of s left
unfolding left_of
calls_joined s left [] e = rw e
calls_joined s left (c ∷ cs) (g, more) =
    let written : take c.answer.len c.new ≡ g.piece =
    rw g.room (take_at g.piece (drop (length g.piece) c.old) c.answer.len (sym g.len)) in
    rw (written, calls_joined s c.answer.left cs more) (sym g.text)

pub pieces_joined : PiecesJoined
unfolding left_of
pieces_joined s cs h = calls_joined s Whole cs h
