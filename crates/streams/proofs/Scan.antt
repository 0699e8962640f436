-- Laws of the scan, whatever a complete message comes to: it splits at any place, F0H leaves every state alike, and all places can be moved.
-- Each goes by the bytes in their order; a byte is looked at only by its kind.
use mathlib.Core.Path.{◌≡◌, refl, ◌∙◌}
use mathlib.Core.Bool.{cond}
use mathlib.Core.List.{List, [], ◌∷◌, ◌++◌, map, append_assoc, append-nil}
use Prim.Native.Nat.{ℕ, suc, ◌+◌}
use native.Mathlib.Nat.{add-suc, add-zero}
use native.Mathlib.Omega.{arith}
use lib.Dec.{eqb}
use lib.ListN.{length}
use lib.Seq.{append_snoc}
use borrow.Author.Tests.{eq-eqb, ne_eqb}
use Rattle.answers.specs.Lists.{All}
use Rattle.answers.specs.Table.{Verdict}
use Rattle.streams.specs.Bytes.{ByteKind, dataByte, exclusive, endOfExclusive, otherStatus, realTime, byte_kind}
use Rattle.streams.specs.Stream.{Report, report}
use Rattle.streams.specs.code.Scan.{State, outside, inside, next, emit, scan}
use Rattle.streams.proofs.Bytes.{Lies, lies, kind_is}

-- One place further, and n after it.
pub further : (p n : ℕ) → p + suc n ≡ suc p + n
further p n = omega arith

-- The state behind the bytes s, the first of which stands at place p.
abbrev pub after : ℕ → State → List ℕ → State
after p st [] = st
after p st (b ∷ s) = after (suc p) (next (byte_kind b) b p st) s

-- A byte of 00H..7FH.
abbrev pub DataByte : ℕ → Type 0
DataByte b = byte_kind b ≡ dataByte

-- Outside a message a byte counts only by being F0H or not.
pub next_outside : (b p : ℕ) → next (byte_kind b) b p outside ≡ cond (eqb b 0xF0) (inside p [] 0) outside
next_outside b p = go (byte_kind b) (lies b)
  where
    go : (k : ByteKind) → Lies k b → next k b p outside ≡ cond (eqb b 0xF0) (inside p [] 0) outside
    go dataByte h = rw (ne_eqb b 0xF0 (λ e. omega arith))
    go exclusive h = rw (eq-eqb b 0xF0 h)
    go endOfExclusive h = rw (ne_eqb b 0xF0 (λ e. omega arith))
    go otherStatus h = rw (ne_eqb b 0xF0 h.2)
    go realTime h = rw (ne_eqb b 0xF0 (λ e. omega arith))

-- F0H leaves every state inside a message that starts there.
pub next_exclusive : (b p : ℕ) (st : State) → next exclusive b p st ≡ inside p [] 0
next_exclusive b p outside = refl
next_exclusive b p (inside f c n) = refl

-- A report k places further on, and a state.
abbrev pub move : ℕ → Report → Report
move k r = report (k + r.start) (k + r.end) r.verdict r.noise

abbrev pub moved : ℕ → State → State
moved k outside = outside
moved k (inside f c n) = inside (k + f) c n

next_moved : (k : ℕ) (q : ByteKind) (b p : ℕ) (st : State) → moved k (next q b p st) ≡ next q b (k + p) (moved k st)
next_moved k dataByte b p outside = refl
next_moved k exclusive b p outside = refl
next_moved k endOfExclusive b p outside = refl
next_moved k otherStatus b p outside = refl
next_moved k realTime b p outside = refl
next_moved k dataByte b p (inside f c n) = refl
next_moved k exclusive b p (inside f c n) = refl
next_moved k endOfExclusive b p (inside f c n) = refl
next_moved k otherStatus b p (inside f c n) = refl
next_moved k realTime b p (inside f c n) = refl

map_append : (k : ℕ) (a b : List Report) → map (move k) (a ++ b) ≡ map (move k) a ++ map (move k) b
map_append k [] b = refl
map_append k (x ∷ a) b = rw (map_append k a b)

module _ (judge : List ℕ → Verdict) where
  -- The reports that the bytes s complete.
  abbrev pub emitted : ℕ → State → List ℕ → List Report
  emitted p st [] = []
  emitted p st (b ∷ s) = emit judge (byte_kind b) p st ++ emitted (suc p) (next (byte_kind b) b p st) s

  -- The scan splits at any place.
  pub scan_split : (xs : List ℕ) (p : ℕ) (st : State) (ys : List ℕ)
      → scan judge p st (xs ++ ys) ≡ emitted p st xs ++ scan judge (p + length xs) (after p st xs) ys
  scan_split [] p st ys = rw (add-zero p)
  scan_split (x ∷ xs) p st ys = rw (further p (length xs), scan_split xs (suc p) (next (byte_kind x) x p st) ys) (rw append_assoc)

  -- The reports that the bytes xs complete where F0H comes next.
  abbrev pub ahead : ℕ → State → List ℕ → List Report
  ahead p st xs = emitted p st xs ++ emit judge exclusive (p + length xs) (after p st xs)

  -- Whatever stands before an F0H, the scan goes on inside the message that starts there.
  pub scan_exclusive : (xs : List ℕ) (p : ℕ) (st : State) (ys : List ℕ)
      → scan judge p st (xs ++ 0xF0 ∷ ys) ≡ ahead p st xs ++ scan judge (suc (p + length xs)) (inside (p + length xs) [] 0) ys
  scan_exclusive xs p st ys =
      rw (scan_split xs p st (0xF0 ∷ ys), kind_is exclusive 0xF0 refl, next_exclusive 0xF0 (p + length xs) (after p st xs)) (rw append_assoc)

  -- Outside a message, F0H starts one and any other byte is skipped.
  pub scan_outside : (p b : ℕ) (s : List ℕ) → scan judge p outside (b ∷ s) ≡ scan judge (suc p) (cond (eqb b 0xF0) (inside p [] 0) outside) s
  scan_outside p b s = rw (next_outside b p)

  -- Data bytes inside a message belong to it.
  pub scan_data : (u : List ℕ) → All DataByte u → (p f n : ℕ) (c s : List ℕ)
      → scan judge p (inside f c n) (u ++ s) ≡ scan judge (p + length u) (inside f (c ++ u) n) s
  scan_data [] a p f n c s = rw (append-nil, add-zero p)
  scan_data (b ∷ u) a p f n c s =
      rw (a.0, further p (length u)) (scan_data u a.1 (suc p) f n (c ++ (b ∷ [])) s ∙ rw (append_snoc c b u))

  emit_moved : (k : ℕ) (q : ByteKind) (p : ℕ) (st : State) → map (move k) (emit judge q p st) ≡ emit judge q (k + p) (moved k st)
  emit_moved k q p outside = refl
  emit_moved k dataByte p (inside f c n) = refl
  emit_moved k exclusive p (inside f c n) = refl
  emit_moved k endOfExclusive p (inside f c n) = rw (add-suc k p)
  emit_moved k otherStatus p (inside f c n) = refl
  emit_moved k realTime p (inside f c n) = refl

  -- The scan of the same bytes k places further on.
  pub scan_moved : (s : List ℕ) (k p : ℕ) (st : State) → map (move k) (scan judge p st s) ≡ scan judge (k + p) (moved k st) s
  scan_moved [] k p outside = refl
  scan_moved [] k p (inside f c n) = refl
  scan_moved (b ∷ s) k p st =
      rw (
        map_append k (emit judge (byte_kind b) p st) (scan judge (suc p) (next (byte_kind b) b p st) s),
        emit_moved k (byte_kind b) p st,
        scan_moved s k (suc p) (next (byte_kind b) b p st),
        add-suc k p,
        next_moved k (byte_kind b) b p st,
      )
