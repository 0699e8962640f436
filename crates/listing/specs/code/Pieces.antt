-- The listing in pieces: what is left of it at a state, what a call gives, and the pieces of calls one after the other.
use Rattle.std.specs.Prelude.{◌≡◌, cond, ◌&&◌, List, [], ◌∷◌, ◌++◌, ℕ, ◌+◌, ◌*◌, ◌-◌, ◌≤◌, ◌<◌, leb, length, take, drop}
use Rattle.streams.specs.Stream.{Report}
use Rattle.streams.specs.code.Scan.{outside, scan}
use Rattle.messages.specs.Judge.{judge}
use Rattle.reading.specs.code.Rooms.{width, most as reports_most}
use Rattle.listing.specs.Listing.{lines, total, listing_of}
use Rattle.listing.specs.declared.Left.{Left}
use Rattle.listing.specs.declared.Left.TheVariants.{Whole, From, Nothing}
use Rattle.listing.specs.declared.Piece.{Piece}

-- The reports from a place of the input on.
abbrev pub reports_at : List ℕ → ℕ → List Report
reports_at s place = scan judge place outside (drop place s)

-- What is left behind n lines: the lines of the reports rs, and how many messages there are in all.
unfoldable pub left_behind : ℕ → List Report → List ℕ
left_behind n rs = lines rs ++ total (n + length rs)

-- What is left of the listing of s. A place past the input, or more lines than bytes before the place, is no state that a call gives.
unfoldable pub left_of : List ℕ → Left → List ℕ
left_of s Whole = listing_of s
left_of s (From place messages) = cond (leb messages place && leb place (length s)) (left_behind messages (reports_at s place)) []
left_of s Nothing = []

-- How many calls may follow.
unfoldable pub calls_left : List ℕ → Left → ℕ
calls_left s Whole = 2 + length s
calls_left s (From place messages) = 1 + (length s - place)
calls_left s Nothing = 0

-- A room of this many bytes or more takes the lines of 8 reports: 20 digits and the byte behind them for each number, and a sign.
abbrev pub least_room : ℕ
least_room = reports_most * (width * 21 + 1)

-- What a call gives: a piece, at the room's start, the room's other bytes kept. The piece and what is left then are what was left before. In
-- a room that is long enough fewer calls may follow than before, so that nothing is left in the end; a shorter one gets an empty piece.
pub record GivesPiece (s : List ℕ) (left : Left) (old new : List ℕ) (p : Piece) : Type 0 where
  pub piece : List ℕ
  pub text : left_of s left ≡ piece ++ left_of s p.left
  pub len : p.len ≡ length piece
  pub fits : length piece ≤ length old
  pub room : new ≡ piece ++ drop (length piece) old
  pub fewer : least_room ≤ length old → calls_left s p.left ≤ calls_left s left - 1
  pub short : length old < least_room → (p.len ≡ 0) × (p.left ≡ left)

-- A call: the lent room before and after, and the answer.
pub record Call : Type 0 where
  pub old : List ℕ
  pub new : List ℕ
  pub answer : Piece

-- Calls from a state on, each next one from what the last one left, until nothing is left.
abbrev pub Calls : List ℕ → Left → List Call → Type 0
Calls s left [] = left ≡ Nothing
Calls s left (c ∷ cs) = GivesPiece s left c.old c.new c.answer × Calls s c.answer.left cs

-- What a program writes that hands on each piece: the start of the room after each call.
abbrev pub joined : List Call → List ℕ
joined [] = []
joined (c ∷ cs) = take c.answer.len c.new ++ joined cs

-- The pieces of the calls from the whole on, joined, are the listing.
abbrev pub PiecesJoined : Type 0
PiecesJoined = (s : List ℕ) (cs : List Call) → Calls s Whole cs → joined cs ≡ listing_of s
