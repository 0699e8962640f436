-- Bytes that leave no message open, and what the messages among them come to.
-- The kind of the next byte decides: data goes into the message, F0H starts another, F7H or a status byte ends it, real time is dropped.
use mathlib.Core.Path.{◌≡◌, refl}
use mathlib.Core.List.{List, [], ◌∷◌, ◌++◌, append-nil}
use Prim.Native.Nat.{ℕ, suc, ◌+◌, ◌≤◌, ◌<◌}
use native.Mathlib.Omega.{arith}
use lib.ListN.{length}
use lib.Seq.{append_snoc}
use Rattle.answers.specs.Lists.{All}
use Rattle.answers.specs.Table.{Verdict, refused, outcome}
use Rattle.answers.proofs.Lists.{all_append, all_weaken}
use Rattle.streams.specs.Bytes.{ByteKind, dataByte, exclusive, endOfExclusive, otherStatus, realTime, byte_kind, framed}
use Rattle.streams.specs.Stream.{report}
use Rattle.streams.specs.code.Scan.{State, outside, inside, next, emit, scan}
use Rattle.streams.proofs.Bytes.{kind_is}
use Rattle.streams.proofs.Scan.{DataByte, after, emitted, scan_data}

module _ (judge : List ℕ → Verdict) where
  -- Data bytes and F7H inside a message close it.
  pub scan_close : (u : List ℕ) → All DataByte u → (p f n : ℕ) (c z : List ℕ)
      → scan judge p (inside f c n) (u ++ 0xF7 ∷ z) ≡ report f (suc (p + length u)) (judge (framed (c ++ u))) n ∷ scan judge (suc (p + length u)) outside z
  scan_close u a p f n c z = rw (scan_data judge u a p f n c (0xF7 ∷ z), kind_is endOfExclusive 0xF7 refl)

  -- Where a message that is open at place p has started.
  abbrev Since : ℕ → ℕ → State → Type 0
  Since q p outside = q ≤ p
  Since q p (inside f c n) = (q ≤ f) × (f < p)

  since_next : (q p : ℕ) (st : State) (k : ByteKind) (b : ℕ) → Since q p st → Since q (suc p) (next k b p st)
  since_next q p outside dataByte b h = omega arith
  since_next q p outside exclusive b h = omega arith
  since_next q p outside endOfExclusive b h = omega arith
  since_next q p outside otherStatus b h = omega arith
  since_next q p outside realTime b h = omega arith
  since_next q p (inside f c n) dataByte b h = omega arith
  since_next q p (inside f c n) exclusive b h = omega arith
  since_next q p (inside f c n) endOfExclusive b h = omega arith
  since_next q p (inside f c n) otherStatus b h = omega arith
  since_next q p (inside f c n) realTime b h = omega arith

  since_emit : (q p m : ℕ) (st : State) (k : ByteKind) → Since q p st → All (λ r. (q ≤ r.start) × (suc r.start < p + suc m)) (emit judge k p st)
  since_emit q p m outside k h = tt
  since_emit q p m (inside f c n) dataByte h = tt
  since_emit q p m (inside f c n) exclusive h = omega arith
  since_emit q p m (inside f c n) endOfExclusive h = omega arith
  since_emit q p m (inside f c n) otherStatus h = omega arith
  since_emit q p m (inside f c n) realTime h = tt

  -- What the bytes t complete starts from there on, and before the last of them.
  pub emitted_within : (t : List ℕ) (q p : ℕ) (st : State) → Since q p st → All (λ r. (q ≤ r.start) × (suc r.start < p + length t)) (emitted judge p st t)
  emitted_within [] q p st h = tt
  emitted_within (b ∷ t) q p st h =
      let rest = emitted_within t q (suc p) (next (byte_kind b) b p st) (since_next q p st (byte_kind b) b h) in
      all_append _ (emit judge (byte_kind b) p st) (emitted judge (suc p) (next (byte_kind b) b p st) t)
      (since_emit q p (length t) st (byte_kind b) h)
      (all_weaken _ _ (λ r z. omega arith) (emitted judge (suc p) (next (byte_kind b) b p st) t) rest)

  module _ (P : Verdict → Type 0) where
    -- From a state on, P holds of every report that the bytes t complete, and behind them no message is open.
    abbrev Ends : ℕ → State → List ℕ → Type 0
    Ends p st t = All (λ r. P r.verdict) (emitted judge p st t) × (after p st t ≡ outside)

    -- So it is with the bytes t behind an F0H and the content c; and outside a message.
    abbrev pub Closes : List ℕ → List ℕ → Type 0
    Closes c t = (p f n : ℕ) → Ends p (inside f c n) t

    abbrev pub Skips : List ℕ → Type 0
    Skips t = (p : ℕ) → Ends p outside t

    -- A byte y of any kind.
    pub byte_outside : (y : ℕ) (t : List ℕ) → Closes [] t → Skips t → Skips (y ∷ t)
    byte_outside y t i o p = go (byte_kind y) refl
      where
        go : (k : ByteKind) → byte_kind y ≡ k → Ends p outside (y ∷ t)
        go dataByte e = rw e (o (suc p))
        go exclusive e = rw e (i (suc p) p 0)
        go endOfExclusive e = rw e (o (suc p))
        go otherStatus e = rw e (o (suc p))
        go realTime e = rw e (o (suc p))

    pub byte_inside : (c : List ℕ) (y : ℕ) (t : List ℕ) → P (refused (outcome 3 0)) → (byte_kind y ≡ dataByte → Closes (c ++ (y ∷ [])) t)
        → (byte_kind y ≡ realTime → Closes c t) → P (judge (framed c)) → (byte_kind y ≡ exclusive → Closes [] t) → Skips t → Closes c (y ∷ t)
    byte_inside c y t broken taken dropped closed i o p f n = go (byte_kind y) refl
      where
        go : (k : ByteKind) → byte_kind y ≡ k → Ends p (inside f c n) (y ∷ t)
        go dataByte e = rw e (taken e (suc p) f n)
        go exclusive e = let r = i e (suc p) p 0 in rw e ((broken, r.0), r.1)
        go endOfExclusive e = let r = o (suc p) in rw e ((closed, r.0), r.1)
        go otherStatus e = let r = o (suc p) in rw e ((broken, r.0), r.1)
        go realTime e = rw e (dropped e (suc p) f (suc n))

    -- Data bytes.
    one_outside : (b : ℕ) (t : List ℕ) → DataByte b → Skips t → Skips (b ∷ t)
    one_outside b t e o p = rw e (o (suc p))

    pub data_outside : (u t : List ℕ) → All DataByte u → Skips t → Skips (u ++ t)
    data_outside [] t a o = o
    data_outside (b ∷ u) t a o = one_outside b (u ++ t) a.0 (data_outside u t a.1 o)

    one_inside : (c : List ℕ) (b : ℕ) (t : List ℕ) → DataByte b → Closes (c ++ (b ∷ [])) t → Closes c (b ∷ t)
    one_inside c b t e i p f n = rw e (i (suc p) f n)

    pub data_inside : (c u t : List ℕ) → All DataByte u → Closes (c ++ u) t → Closes c (u ++ t)
    data_inside c [] t a i = rw append-nil at i
    data_inside c (b ∷ u) t a i = one_inside c b (u ++ t) a.0 (data_inside (c ++ (b ∷ [])) u t a.1 (rw (append_snoc c b u) i))

    -- The closing F7H.
    pub close : (c t : List ℕ) → P (judge (framed c)) → Skips t → Closes c (0xF7 ∷ t)
    close c t h o p f n = let r = o (suc p) in rw (kind_is endOfExclusive 0xF7 refl) ((h, r.0), r.1)
