-- One call that is fed bytes, byte by byte: inside a message it passes over the body, outside over what stands before an F0H, and the first report
-- ends it. So what the two states make of the bytes is what the call gives, then what they make of the rest.
use mathlib.Core.Path.{◌≡◌, refl, sym, ◌∙◌}
use mathlib.Core.List.{List, [], ◌∷◌, ◌++◌, append-nil}
use mathlib.Core.Option.{none, some}
use Prim.Native.Nat.{ℕ, suc, ◌+◌, ◌≤◌, ◌<◌}
use native.Mathlib.Nat.{add-zero}
use native.Mathlib.Omega.{arith}
use lib.ListN.{length, drop}
use lib.Seq.{append_snoc}
use Rattle.answers.specs.Table.{Verdict, refused, outcome}
use Rattle.streams.specs.Bytes.{ByteKind, dataByte, exclusive, endOfExclusive, otherStatus, realTime}
use Rattle.streams.specs.Bytes.{byte_kind, body, without_real_time, real_time_in, framed}
use Rattle.streams.specs.Stream.{Report, report}
use Rattle.streams.specs.Feed.{Taken, taking, own_byte, onward, taken}
use Rattle.streams.specs.code.Scan.{State, outside, inside, next, emit, scan}
use Rattle.streams.specs.promises.Feed.{list_of, Stops, at_an_end, at_all, Within, EndsSo, closed, interrupted, Fed}
use Rattle.streams.proofs.Bytes.{kind_is, Ending, closing, starting, breaking, ending, behind_body}
use Rattle.streams.proofs.Scan.{further}

-- n bytes are taken first.
abbrev pub past : ℕ → Taken → Taken
past n t = taking (n + t.count) t.state t.ended

module _ (judge : List ℕ → Verdict) where
  abbrev past_body : ℕ → ℕ → List ℕ → ℕ → List ℕ → Taken
  past_body p f c n t =
      past (length (body t))
      (taken judge (p + length (body t)) (inside f (c ++ without_real_time (body t)) (n + real_time_in (body t))) (drop (length (body t)) t))

  -- Inside a message a call passes over the body, real time dropped and counted.
  pub taken_body : (t : List ℕ) (p f : ℕ) (c : List ℕ) (n : ℕ) → taken judge p (inside f c n) t ≡ past_body p f c n t
  unfolding body without_real_time real_time_in
  taken_body [] p f c n = rw (append-nil c, add-zero n)
  taken_body (b ∷ t) p f c n = by_its_kind (byte_kind b) refl (taken_body t (suc p) f (c ++ (b ∷ [])) n) (taken_body t (suc p) f c (suc n))
    where
      one_more : (n m : ℕ) → suc n + m ≡ suc (n + m)
      one_more n m = omega arith

      by_its_kind : (k : ByteKind) → byte_kind b ≡ k → taken judge (suc p) (inside f (c ++ (b ∷ [])) n) t ≡ past_body (suc p) f (c ++ (b ∷ [])) n t
          → taken judge (suc p) (inside f c (suc n)) t ≡ past_body (suc p) f c (suc n) t → taken judge p (inside f c n) (b ∷ t) ≡ past_body p f c n (b ∷ t)
      by_its_kind dataByte q i j =
          rw (q, i, further p (length (body t)), append_snoc c b (without_real_time (body t)), one_more (length (body t))) (rw q)
      by_its_kind exclusive q i j = rw (q, add-zero p, append-nil c, add-zero n) (rw q)
      by_its_kind endOfExclusive q i j = rw (q, add-zero p, append-nil c, add-zero n) (rw q)
      by_its_kind otherStatus q i j = rw (q, add-zero p, append-nil c, add-zero n) (rw q)
      by_its_kind realTime q i j = rw (q, j, further p (length (body t)), one_more (length (body t))) (rw (q, further n (real_time_in (body t))))

  -- By what stands behind the body: nothing, F7H, or another byte.
  module _ (p f : ℕ) (c : List ℕ) (k : ℕ) (t : List ℕ) where
    abbrev pub n : ℕ
    n = length (body t)

    abbrev pub whole : List ℕ
    whole = c ++ without_real_time (body t)

    abbrev pub noise : ℕ
    noise = k + real_time_in (body t)

    pub taken_cut : drop n t ≡ [] → taken judge p (inside f c k) t ≡ taking n (inside f whole noise) none
    taken_cut e = rw (taken_body t p f c k, e, add-zero n)

    pub taken_closed : (r : List ℕ) → drop n t ≡ 0xF7 ∷ r
        → taken judge p (inside f c k) t ≡ taking (n + 1) outside (some (report f (suc (p + n)) (judge (framed whole)) noise))
    taken_closed r e = rw (taken_body t p f c k, e, kind_is endOfExclusive 0xF7 refl)

    pub taken_broken : (x : ℕ) (r : List ℕ) → drop n t ≡ x ∷ r → (x ≡ 0xF7 → ⊥)
        → taken judge p (inside f c k) t ≡ taking n outside (some (report f (p + n) (refused (outcome 3 0)) noise))
    taken_broken x r e m = rw (taken_body t p f c k, e) (by_end (ending x (behind_body t x r e)))
      where
        broken : ℕ → Taken
        broken m = taking m outside (some (report f (p + n) (refused (outcome 3 0)) noise))

        -- the byte that interrupts is not among those taken
        up_to : past n (broken 0) ≡ broken n
        up_to = rw (add-zero n)

        by_end : Ending x → past n (taken judge (p + n) (inside f whole noise) (x ∷ r)) ≡ broken n
        by_end (closing q) = absurd (m q)
        by_end (starting q) = rw (kind_is exclusive x q) up_to
        by_end (breaking q) = rw q up_to

  -- No more bytes are taken than there are.
  own_within : (k : ByteKind) (n : ℕ) → own_byte k ≤ suc n
  own_within dataByte n = omega arith
  own_within exclusive n = omega arith
  own_within endOfExclusive n = omega arith
  own_within otherStatus n = omega arith
  own_within realTime n = omega arith

  pub taken_within : (s : List ℕ) (p : ℕ) (st : State) → (taken judge p st s).count ≤ length s
  taken_within [] p st = omega arith
  taken_within (b ∷ s) p st =
      go (emit judge (byte_kind b) p st) (taken judge (suc p) (next (byte_kind b) b p st) s) (taken_within s (suc p) (next (byte_kind b) b p st))
    where
      go : (rs : List Report) (t : Taken) → t.count ≤ length s → (onward (byte_kind b) rs t).count ≤ suc (length s)
      go [] t h = omega arith
      go (r ∷ rs) t h = own_within (byte_kind b) (length s)

  abbrev StopsAt : ℕ → List ℕ → Taken → Type 0
  StopsAt p s t = Stops p s t.count t.state t.ended

  -- One byte before what stops.
  stops_later : (p b : ℕ) (s : List ℕ) (t : Taken) → StopsAt (suc p) s t → StopsAt p (b ∷ s) (taking (suc t.count) t.state t.ended)
  stops_later p b s t (at_an_end e q l o) = at_an_end e q (l ∙ sym (further p t.count)) o
  stops_later p b s t (at_all q l) = at_all q (rw l)

  pub taken_stops : (s : List ℕ) (p : ℕ) (st : State) → StopsAt p s (taken judge p st s)
  taken_stops [] p st = at_all refl refl
  taken_stops (b ∷ s) p outside =
      let st = next (byte_kind b) b p outside in
      stops_later p b s (taken judge (suc p) st s) (taken_stops s (suc p) st)
  taken_stops (b ∷ s) p (inside f c k) = by_its_kind (byte_kind b) (taken_stops s (suc p))
    where
      by_its_kind : (q : ByteKind) → ((st : State) → StopsAt (suc p) s (taken judge (suc p) st s))
          → StopsAt p (b ∷ s) (onward q (emit judge q p (inside f c k)) (taken judge (suc p) (next q b p (inside f c k)) s))
      by_its_kind dataByte i = let st = inside f (c ++ (b ∷ [])) k in stops_later p b s (taken judge (suc p) st s) (i st)
      by_its_kind exclusive i = at_an_end _ refl (sym (add-zero p)) refl
      by_its_kind endOfExclusive i = at_an_end _ refl (omega arith) refl
      by_its_kind otherStatus i = at_an_end _ refl (sym (add-zero p)) refl
      by_its_kind realTime i = let st = inside f c (suc k) in stops_later p b s (taken judge (suc p) st s) (i st)

  -- A message that ends was closed or interrupted.
  pub taken_ends : (s : List ℕ) (p : ℕ) (st : State) → EndsSo judge (taken judge p st s).ended
  taken_ends [] p st = tt
  taken_ends (b ∷ s) p outside = taken_ends s (suc p) (next (byte_kind b) b p outside)
  taken_ends (b ∷ s) p (inside f c n) = by_its_kind (byte_kind b) (taken_ends s (suc p))
    where
      by_its_kind : (k : ByteKind) → ((st : State) → EndsSo judge (taken judge (suc p) st s).ended)
          → EndsSo judge (onward k (emit judge k p (inside f c n)) (taken judge (suc p) (next k b p (inside f c n)) s)).ended
      by_its_kind dataByte i = i (inside f (c ++ (b ∷ [])) n)
      by_its_kind exclusive i = interrupted refl
      by_its_kind endOfExclusive i = closed c refl
      by_its_kind otherStatus i = interrupted refl
      by_its_kind realTime i = i (inside f c (suc n))

  -- Real time is counted with each byte of it, and so is the place.
  pub taken_counted : (s : List ℕ) (p : ℕ) (st : State) → Within p st → let t = taken judge p st s in Within (p + t.count) t.state
  taken_counted [] p st w = rw (add-zero p) w
  taken_counted (b ∷ s) p st w =
      go st (byte_kind b) w (taken_counted s (suc p) (next (byte_kind b) b p st))
    where
      after_one : (st : State) (k : ByteKind) → Within p st → Within (suc p) (next k b p st)
      after_one outside dataByte h = tt
      after_one outside exclusive h = omega arith
      after_one outside endOfExclusive h = tt
      after_one outside otherStatus h = tt
      after_one outside realTime h = tt
      after_one (inside f c n) dataByte h = omega arith
      after_one (inside f c n) exclusive h = omega arith
      after_one (inside f c n) endOfExclusive h = tt
      after_one (inside f c n) otherStatus h = tt
      after_one (inside f c n) realTime h = omega arith

      go : (st : State) (k : ByteKind) → Within p st
          → (Within (suc p) (next k b p st) → let t = taken judge (suc p) (next k b p st) s in Within (suc p + t.count) t.state)
          → let t = onward k (emit judge k p st) (taken judge (suc p) (next k b p st) s) in Within (p + t.count) t.state
      go outside k h i = rw (further p (taken judge (suc p) (next k b p outside) s).count) (i (after_one outside k h))
      go (inside f c n) dataByte h i =
          rw (further p (taken judge (suc p) (inside f (c ++ (b ∷ [])) n) s).count) (i (omega arith))
      go (inside f c n) exclusive h i = tt
      go (inside f c n) endOfExclusive h i = tt
      go (inside f c n) otherStatus h i = tt
      go (inside f c n) realTime h i = rw (further p (taken judge (suc p) (inside f c (suc n)) s).count) (i (omega arith))

  -- Outside a message a byte completes nothing.
  pub taken_on : (s : List ℕ) (p : ℕ) → 0 < length s → 0 < (taken judge p outside s).count
  taken_on [] p h = absurd (omega arith)
  taken_on (b ∷ s) p h = omega arith

  -- What a call takes is the scan's beginning.
  abbrev Splits : List ℕ → ℕ → State → List ℕ → Type 0
  Splits ys p st xs = let t = taken judge p st xs in
      scan judge p st (xs ++ ys) ≡ list_of t.ended ++ scan judge (p + t.count) t.state (drop t.count xs ++ ys)

  pub scan_taken : (xs ys : List ℕ) (p : ℕ) (st : State) → Splits ys p st xs
  scan_taken [] ys p st = rw (add-zero p)
  scan_taken (b ∷ xs) ys p outside =
      let st = next (byte_kind b) b p outside in
      rw (further p (taken judge (suc p) st xs).count) (scan_taken xs ys (suc p) st)
  scan_taken (b ∷ xs) ys p (inside f c n) = by_its_kind (byte_kind b) refl (scan_taken xs ys (suc p))
    where
      by_its_kind : (k : ByteKind) → byte_kind b ≡ k → ((st : State) → Splits ys (suc p) st xs) → Splits ys p (inside f c n) (b ∷ xs)
      by_its_kind dataByte q i =
          let st = inside f (c ++ (b ∷ [])) n in rw (q, further p (taken judge (suc p) st xs).count) (i st)
      by_its_kind exclusive q i = rw (q, add-zero p) (rw q)
      by_its_kind endOfExclusive q i = let e : p + 1 ≡ suc p = omega arith in rw (q, e)
      by_its_kind otherStatus q i = rw (q, add-zero p) (rw q)
      by_its_kind realTime q i = let st = inside f c (suc n) in rw (q, further p (taken judge (suc p) st xs).count) (i st)

  pub fed : (p : ℕ) (st : State) (xs : List ℕ) → Fed judge p st xs
  fed p st xs = record {
    within = taken_within xs p st;
    stops = taken_stops xs p st;
    onward = λ ys. scan_taken xs ys p st;
    ends_so = taken_ends xs p st;
    counted = taken_counted xs p st;
    gets_on = λ q h. rw q (taken_on xs p h);
  }
