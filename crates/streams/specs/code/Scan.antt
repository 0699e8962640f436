-- The walk told as two states, outside a message and inside one, that hand the rest of the input to each other.
use Rattle.std.specs.Prelude.{List, [], ◌∷◌, ◌++◌, ℕ, suc}
use Rattle.answers.specs.Table.{Verdict, refused, outcome}
use Rattle.streams.specs.Bytes.{ByteKind, dataByte, exclusive, endOfExclusive, otherStatus, realTime, byte_kind, framed}
use Rattle.streams.specs.Stream.{Report, report}

-- Inside a message: where it started, its bytes so far behind F0H, real time dropped, and how many were dropped.
pub data State : Type 0 where
  outside : State
  inside : (start : ℕ) (content : List ℕ) (noise : ℕ) → State

-- The state behind a byte b of kind k at place p.
abbrev pub next : ByteKind → ℕ → ℕ → State → State
next dataByte b p outside = outside
next exclusive b p outside = inside p [] 0
next endOfExclusive b p outside = outside
next otherStatus b p outside = outside
next realTime b p outside = outside
next dataByte b p (inside f c n) = inside f (c ++ (b ∷ [])) n
next exclusive b p (inside f c n) = inside p [] 0
next endOfExclusive b p (inside f c n) = outside
next otherStatus b p (inside f c n) = outside
next realTime b p (inside f c n) = inside f c (suc n)

-- Where the input ends inside a message, it is cut.
abbrev pub finish : ℕ → State → List Report
finish p outside = []
finish p (inside f c n) = report f p (refused (outcome 2 0)) n ∷ []

module _ (judge : List ℕ → Verdict) where
  -- The report that a byte of kind k at place p completes.
  abbrev pub emit : ByteKind → ℕ → State → List Report
  emit k p outside = []
  emit dataByte p (inside f c n) = []
  emit exclusive p (inside f c n) = report f p (refused (outcome 3 0)) n ∷ []
  emit endOfExclusive p (inside f c n) = report f (suc p) (judge (framed c)) n ∷ []
  emit otherStatus p (inside f c n) = report f p (refused (outcome 3 0)) n ∷ []
  emit realTime p (inside f c n) = []

  -- The reports of the bytes s, the first of which stands at place p, from a state.
  abbrev pub scan : ℕ → State → List ℕ → List Report
  scan p st [] = finish p st
  scan p st (b ∷ s) = emit (byte_kind b) p st ++ scan (suc p) (next (byte_kind b) b p st) s
