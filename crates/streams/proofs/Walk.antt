-- The walk, call after call, gives the reports of one scan; from the start of a report it gives that report again; and the reports stand in order.
-- All of it follows from what the scan gives just behind an F0H: the message there, then the scan of what is behind that message.
use mathlib.Core.Path.{◌≡◌, refl, sym, ap, ◌∙◌}
use mathlib.Core.Bool.{Bool, true, false}
use mathlib.Core.List.{List, [], ◌∷◌, ◌++◌, append-nil}
use mathlib.Core.Option.{none, some}
use Prim.Native.Nat.{ℕ, zero, suc, ◌+◌, ◌-◌, ◌≤◌, ◌<◌}
use native.Mathlib.Nat.{add-zero, zero-add}
use native.Mathlib.Omega.{arith}
use lib.Dec.{eqb}
use lib.ListN.{length, take, drop, length-drop, drop_of_length-le}
use lib.Seq.{append_snoc, drop-drop}
use borrow.Author.Tests.{eq-eqb, ne_eqb}
use Rattle.answers.specs.Lists.{All}
use Rattle.answers.specs.Table.{Verdict, refused, outcome}
use Rattle.streams.specs.Bytes.{ByteKind, dataByte, exclusive, endOfExclusive, otherStatus, realTime}
use Rattle.streams.specs.Bytes.{byte_kind, body, without_real_time, real_time_in, framed}
use Rattle.streams.specs.Stream.{Report, report, message_at, first_from, walk, reports_from, reports}
use Rattle.streams.specs.code.Scan.{outside, inside, scan}
use Rattle.streams.specs.promises.Order.{InOrder, ReportsOf}
use Rattle.streams.proofs.Bytes.{lies_in, kind_is, Ending, closing, starting, breaking, ending, behind_body, body_within, body_take, body_closed}
use Rattle.streams.proofs.Noise.{noise_none, noise_other, noise_append}
use Rattle.streams.proofs.Scan.{further, scan_outside}

module _ (judge : List ℕ → Verdict) where
  -- The scan from behind the body of t, inside the message from f with the content c and n real-time bytes before t.
  abbrev pub past_body : ℕ → ℕ → List ℕ → ℕ → List ℕ → List Report
  past_body p f c n t =
      scan judge (p + length (body t)) (inside f (c ++ without_real_time (body t)) (n + real_time_in (body t))) (drop (length (body t)) t)

  -- Inside a message the scan passes over the body, real time dropped and counted.
  pub scan_body : (t : List ℕ) (p f : ℕ) (c : List ℕ) (n : ℕ) → scan judge p (inside f c n) t ≡ past_body p f c n t
  unfolding body without_real_time real_time_in
  scan_body [] p f c n = rw (add-zero p, add-zero n)
  scan_body (b ∷ t) p f c n = by_its_kind (byte_kind b) refl (scan_body t (suc p) f (c ++ (b ∷ [])) n) (scan_body t (suc p) f c (suc n))
    where
      by_its_kind : (k : ByteKind) → byte_kind b ≡ k → scan judge (suc p) (inside f (c ++ (b ∷ [])) n) t ≡ past_body (suc p) f (c ++ (b ∷ [])) n t
          → scan judge (suc p) (inside f c (suc n)) t ≡ past_body (suc p) f c (suc n) t → scan judge p (inside f c n) (b ∷ t) ≡ past_body p f c n (b ∷ t)
      by_its_kind dataByte q i j = rw (q, i, further p (length (body t)), append_snoc c b (without_real_time (body t))) (rw q)
      by_its_kind exclusive q i j = rw (q, add-zero p, append-nil c, add-zero n) (rw q)
      by_its_kind endOfExclusive q i j = rw (q, add-zero p, append-nil c, add-zero n) (rw q)
      by_its_kind otherStatus q i j = rw (q, add-zero p, append-nil c, add-zero n) (rw q)
      by_its_kind realTime q i j = rw (q, j, further p (length (body t))) (rw (q, further n (real_time_in (body t))))

  -- An F0H at place f, before the bytes t.
  module _ (f : ℕ) (t : List ℕ) where
    -- The place behind the body.
    abbrev pub stop : ℕ
    stop = suc f + length (body t)

    -- What was heard up to there: F0H is not real time. And with F7H behind, which is none either.
    heard : real_time_in (take (stop - f) (0xF0 ∷ t)) ≡ real_time_in (body t)
    heard =
        let size : stop - f ≡ suc (length (body t)) = omega arith in
        rw size (noise_other 0xF0 (take (length (body t)) t) (omega arith) ∙ ap real_time_in (body_take t))

    heard_closed : (r : List ℕ) → drop (length (body t)) t ≡ 0xF7 ∷ r → real_time_in (take (suc stop - f) (0xF0 ∷ t)) ≡ real_time_in (body t)
    heard_closed r e =
        let size : suc stop - f ≡ suc (length (body t) + 1) = omega arith in
        let last = noise_other 0xF7 [] (omega arith) ∙ noise_none in
        rw size (noise_other 0xF0 (take (length (body t) + 1) t) (omega arith)
        ∙ (ap real_time_in (body_closed t r e) ∙ (noise_append (body t) (0xF7 ∷ []) ∙ (rw last (add-zero (real_time_in (body t)))))))

    -- With nothing behind its body the message is cut.
    pub cut_message : drop (length (body t)) t ≡ [] → message_at judge f t ≡ report f stop (refused (outcome 2 0)) (real_time_in (body t))
    unfolding message_at
    cut_message e = rw (e, ← heard)

    -- With F7H behind its body it is complete, and its content is judged.
    pub closed_message : (r : List ℕ) → drop (length (body t)) t ≡ 0xF7 ∷ r
        → message_at judge f t ≡ report f (suc stop) (judge (framed (without_real_time (body t)))) (real_time_in (body t))
    unfolding message_at
    closed_message r e = rw (e, ← (heard_closed r e))

    -- With another byte behind its body it is interrupted.
    pub interrupted_message : (x : ℕ) (r : List ℕ) → drop (length (body t)) t ≡ x ∷ r → (x ≡ 0xF7 → ⊥)
        → message_at judge f t ≡ report f stop (refused (outcome 3 0)) (real_time_in (body t))
    unfolding message_at
    interrupted_message x r e n = rw (e, ne_eqb x 0xF7 n, ← heard)

    -- From just behind its F0H the scan passes over the body.
    scan_inside : scan judge (suc f) (inside f [] 0) t
        ≡ scan judge stop (inside f (without_real_time (body t)) (real_time_in (body t))) (drop (length (body t)) t)
    scan_inside = scan_body t (suc f) f [] 0 ∙ rw (zero-add (real_time_in (body t)))

    -- From just behind the F0H of a message that is cut, the scan gives that message alone.
    pub scan_cut : drop (length (body t)) t ≡ [] → scan judge (suc f) (inside f [] 0) t ≡ message_at judge f t ∷ []
    scan_cut e = rw (cut_message e, scan_inside, e)

    -- Of one that is complete, that message and the scan from behind its F7H.
    pub scan_closed : (r : List ℕ) → drop (length (body t)) t ≡ 0xF7 ∷ r
        → scan judge (suc f) (inside f [] 0) t ≡ message_at judge f t ∷ scan judge (suc stop) outside r
    scan_closed r e = rw (closed_message r e, scan_inside, e, kind_is endOfExclusive 0xF7 refl)

    -- Of one that F0H interrupts, that message and the scan inside the next.
    pub scan_again : (r : List ℕ) → drop (length (body t)) t ≡ 0xF0 ∷ r
        → scan judge (suc f) (inside f [] 0) t ≡ message_at judge f t ∷ scan judge (suc stop) (inside stop [] 0) r
    scan_again r e = rw (interrupted_message 0xF0 r e (λ z. omega arith), scan_inside, e, kind_is exclusive 0xF0 refl)

    -- Of one that another status byte interrupts, that message and the scan from behind that byte.
    pub scan_broken : (x : ℕ) (r : List ℕ) → drop (length (body t)) t ≡ x ∷ r → (x ≡ 0xF0 → ⊥) → (x ≡ 0xF7 → ⊥)
        → scan judge (suc f) (inside f [] 0) t ≡ message_at judge f t ∷ scan judge (suc stop) outside r
    scan_broken x r e n m = rw (interrupted_message x r e m, scan_inside, e, other (ending x (behind_body t x r e)))
      where
        other : Ending x → byte_kind x ≡ otherStatus
        other (closing q) = absurd (m q)
        other (starting q) = absurd (n q)
        other (breaking q) = q

    -- How many bytes behind its F0H the message takes, and the scan outside from there.
    pub record Behind : Type 0 where
      pub taken : ℕ
      pub within : taken ≤ length t
      pub starts : (message_at judge f t).start ≡ f
      pub ends : (message_at judge f t).end ≡ suc f + taken
      pub rest : scan judge (suc f) (inside f [] 0) t ≡ message_at judge f t ∷ scan judge (suc f + taken) outside (drop taken t)

    -- Every message is one report, and the scan goes on outside from its end.
    pub behind : Behind
    behind = go (drop (length (body t)) t) refl
      where
        go : (w : List ℕ) → drop (length (body t)) t ≡ w → Behind
        go [] e = record {
          taken = length (body t);
          within = body_within t;
          starts = rw (cut_message e);
          ends = rw (cut_message e);
          rest = rw e (scan_cut e);
        }
        go (x ∷ r) e = by_end (ending x (behind_body t x r e))
          where
            -- the byte that interrupts is not consumed
            interrupted : (x ≡ 0xF7 → ⊥) → scan judge (suc f) (inside f [] 0) t ≡ message_at judge f t ∷ scan judge stop outside (x ∷ r) → Behind
            interrupted n s = record {
              taken = length (body t);
              within = body_within t;
              starts = rw (interrupted_message x r e n);
              ends = rw (interrupted_message x r e n);
              rest = rw e s;
            }

            by_end : Ending x → Behind
            by_end (closing q) = record {
              taken = length (body t) + 1;
              within = omega (arith, length-drop (length (body t)) t, ap length e);
              starts = rw (closed_message r (rw q at e));
              ends = rw (closed_message r (rw q at e)) (omega arith);
              rest =
                  let one_behind : suc f + (length (body t) + 1) ≡ suc stop = omega arith in
                  rw (one_behind, ← (drop-drop 1 (length (body t)) t), e) (scan_closed r (rw q at e));
            }
            by_end (starting q) = interrupted (λ z. omega arith) (scan_again r (rw q at e) ∙ rw (scan_outside judge stop x r, eq-eqb x 0xF0 q))
            by_end (breaking q) =
                let h = lies_in otherStatus x q in
                interrupted h.3 (scan_broken x r e h.2 h.3 ∙ rw (scan_outside judge stop x r, ne_eqb x 0xF0 h.2))

  -- The first message of the bytes t, the first of which stands at place p: how many bytes are before it, how many up to its end,
  -- the walk from its start, and the reports behind it.
  pub record Found (p : ℕ) (t : List ℕ) (r : Report) : Type 0 where
    pub skipped : ℕ
    pub taken : ℕ
    pub starts : r.start ≡ p + skipped
    pub ends : r.end ≡ p + taken
    pub some_bytes : skipped < taken
    pub within : taken ≤ length t
    pub again : first_from judge (p + skipped) (drop skipped t) ≡ some r
    pub rest : scan judge p outside t ≡ r ∷ scan judge (p + taken) outside (drop taken t)

  -- The walk finds nothing and the scan gives nothing; or both find the same first report.
  pub data Walked (p : ℕ) (t : List ℕ) : Type 0 where
    nothing : first_from judge p t ≡ none → scan judge p outside t ≡ [] → Walked p t
    message : (r : Report) → first_from judge p t ≡ some r → Found p t r → Walked p t

  -- The walk finds the first report of the scan.
  pub walked : (t : List ℕ) (p : ℕ) → Walked p t
  unfolding first_from
  walked [] p = nothing refl refl
  walked (b ∷ t) p = by_test (eqb b 0xF0) refl (walked t (suc p))
    where
      by_test : (v : Bool) → eqb b 0xF0 ≡ v → Walked (suc p) t → Walked p (b ∷ t)
      by_test true q i =
          let h = behind p t in
          message (message_at judge p t) (rw q) (record {
            skipped = 0;
            taken = suc h.taken;
            starts = rw (add-zero p) h.starts;
            ends = h.ends ∙ sym (further p h.taken);
            some_bytes = omega arith;
            within = omega (arith, h.within);
            again = rw (add-zero p, q);
            rest = rw (scan_outside judge p b t, q, further p h.taken) h.rest;
          })
      by_test false q (nothing e₁ e₂) = nothing (rw q e₁) (rw (scan_outside judge p b t, q) e₂)
      by_test false q (message r e h) =
          message r (rw q e) (record {
            skipped = suc h.skipped;
            taken = suc h.taken;
            starts = h.starts ∙ sym (further p h.skipped);
            ends = h.ends ∙ sym (further p h.taken);
            some_bytes = omega (arith, h.some_bytes);
            within = omega (arith, h.within);
            again = rw (further p h.skipped) h.again;
            rest = rw (scan_outside judge p b t, q, further p h.taken) h.rest;
          })

  -- With enough calls, the walk from place p on gives the reports of the scan from there.
  pub reports_from_scan : (s : List ℕ) (n p : ℕ) → length s ≤ n + p → reports_from judge n s p ≡ scan judge p outside (drop p s)
  unfolding walk
  reports_from_scan s zero p h = rw (drop_of_length-le s {i = p} (omega arith))
  reports_from_scan s (suc n) p h = by_walk (walked (drop p s) p) (reports_from_scan s n)
    where
      by_walk : Walked p (drop p s) → ((m : ℕ) → length s ≤ n + m → reports_from judge n s m ≡ scan judge m outside (drop m s))
          → reports_from judge (suc n) s p ≡ scan judge p outside (drop p s)
      by_walk (nothing e₁ e₂) i = rw (e₁, reports_from, e₂)
      by_walk (message r e q) i =
          let far : length s ≤ n + (p + q.taken) = omega (arith, q.some_bytes) in
          rw (e, reports_from, q.rest, q.ends, i (p + q.taken) far, drop-drop q.taken p s)

  -- The reports of a stream are those of one scan.
  pub reports_scan : (s : List ℕ) → reports judge s ≡ scan judge 0 outside s
  unfolding reports
  reports_scan s = reports_from_scan s (length s) 0 (omega arith)

  -- The walk from the start of each report gives that report.
  pub reread_from : (s : List ℕ) (n p : ℕ) → All (λ r. walk judge s r.start ≡ some r) (reports_from judge n s p)
  unfolding walk
  reread_from s zero p = tt
  reread_from s (suc n) p = by_walk (walked (drop p s) p) (reread_from s n)
    where
      by_walk : Walked p (drop p s) → ((m : ℕ) → All (λ r. walk judge s r.start ≡ some r) (reports_from judge n s m))
          → All (λ r. walk judge s r.start ≡ some r) (reports_from judge (suc n) s p)
      by_walk (nothing e₁ e₂) i = rw (e₁, reports_from) tt
      by_walk (message r e q) i =
          rw (e, reports_from) (ap (walk judge s) q.starts ∙ rw (← (drop-drop q.skipped p s)) q.again, i r.end)

  pub reread : (s : List ℕ) → All (λ r. walk judge s r.start ≡ some r) (reports judge s)
  unfolding reports
  reread s = reread_from s (length s) 0

  scan_ordered : (n : ℕ) (t : List ℕ) (p : ℕ) → length t ≤ n → InOrder p (p + length t) (scan judge p outside t)
  scan_ordered zero [] p h = tt
  scan_ordered zero (b ∷ t) p h = absurd (omega arith)
  scan_ordered (suc n) t p h = by_walk (walked t p) (scan_ordered n)
    where
      by_walk : Walked p t → ((t : List ℕ) (p : ℕ) → length t ≤ n → InOrder p (p + length t) (scan judge p outside t))
          → InOrder p (p + length t) (scan judge p outside t)
      by_walk (nothing e₁ e₂) i = rw e₂ tt
      by_walk (message r e q) i =
          let l = length-drop q.taken t in
          let whole : p + q.taken + length (drop q.taken t) ≡ p + length t = omega (arith, q.within) in
          rw q.rest (
            omega (arith, q.starts),
            omega (arith, q.starts, q.ends, q.some_bytes),
            omega (arith, q.ends, q.within),
            rw (q.ends, ← whole) (i (drop q.taken t) (p + q.taken) (omega (arith, q.some_bytes))),
          )

  -- The reports of a scan from outside stand in order.
  pub scan_order : (t : List ℕ) (p : ℕ) → InOrder p (p + length t) (scan judge p outside t)
  scan_order t p = scan_ordered (length t) t p (omega arith)

  -- Each report of a stream ends past its start, starts no earlier than the one before it ends, and ends within the stream.
  pub reports_order : (s : List ℕ) → InOrder 0 (length s) (reports judge s)
  reports_order s = rw (reports_scan s, ← (zero-add (length s))) (scan_order s 0)

  -- What holds of the reports of every stream.
  pub reports_of : (s : List ℕ) → ReportsOf judge s
  reports_of s = record { by_states = λ p. reports_from_scan s (length s) p (omega arith); in_order = reports_order s; found_again = reread s }
