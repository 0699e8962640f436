-- A message of data bytes between F0H and F7H, in any stream: the walk from its place finds it, and the scan reports it and goes on behind it.
-- And back: a message that the walk finds and that is not cut or interrupted is such a message once its real-time bytes are dropped.
use mathlib.Core.Path.{◌≡◌, refl, sym, ap, ◌∙◌}
use mathlib.Core.Bool.{Bool, true, false, cond}
use mathlib.Core.List.{List, [], ◌∷◌, ◌++◌, append_assoc}
use mathlib.Core.Option.{some}
use Prim.Native.Nat.{ℕ, suc, ◌+◌, ◌-◌, ◌<◌}
use native.Mathlib.Nat.{add-zero}
use native.Mathlib.Omega.{arith}
use lib.Dec.{eqb}
use lib.ListN.{length, drop, length-append}
use lib.Seq.{drop-append_seam, drop-drop}
use borrow.Author.Tests.{eqb-true, eqb-false}
use Rattle.answers.specs.Lists.{All}
use Rattle.answers.specs.Table.{Verdict, answer_of}
use Rattle.answers.proofs.Lists.{all_weaken}
use Rattle.streams.specs.Bytes.{ByteKind, dataByte, exclusive, endOfExclusive, otherStatus, realTime}
use Rattle.streams.specs.Bytes.{byte_kind, is_real_time, body, without_real_time, real_time_in, framed}
use Rattle.streams.specs.Stream.{Report, report, between, message_at, first_from, walk}
use Rattle.streams.specs.code.Scan.{outside, scan}
use Rattle.streams.proofs.Bytes.{lies_in, kind_is, body_on, body_stop, body_closed}
use Rattle.streams.proofs.Noise.{none_dropped}
use Rattle.streams.proofs.Scan.{DataByte, further}
use Rattle.streams.proofs.Walk.{cut_message, closed_message, interrupted_message}
use Rattle.streams.proofs.Closing.{scan_close}

-- Bytes below 80H are data bytes.
pub data_bytes : (c : List ℕ) → All (λ b. b < 0x80) c → All DataByte c
data_bytes c a = all_weaken (λ b. b < 0x80) DataByte (λ b h. kind_is dataByte b h) c a

-- Data bytes before F7H are the body.
body_data : (c z : List ℕ) → All DataByte c → body (c ++ 0xF7 ∷ z) ≡ c
body_data [] z a = body_stop 0xF7 z (rw (kind_is endOfExclusive 0xF7 refl))
body_data (b ∷ c) z a = body_on b (c ++ 0xF7 ∷ z) (rw a.0) ∙ ap (λ (l : List ℕ). b ∷ l) (body_data c z a.1)

-- Data bytes hold no real time.
without_data : (c : List ℕ) → All DataByte c → without_real_time c ≡ c
unfolding without_real_time
without_data [] a = refl
without_data (b ∷ c) a = rw (a.0, without_data c a.1)

quiet_data : (c : List ℕ) → All DataByte c → real_time_in c ≡ 0
quiet_data c a = none_dropped c (without_data c a)

-- Real time is dropped from two runs of bytes one by one.
pub without_append : (u v : List ℕ) → without_real_time (u ++ v) ≡ without_real_time u ++ without_real_time v
unfolding without_real_time
without_append [] v = refl
without_append (b ∷ u) v = go (is_real_time (byte_kind b)) refl (without_append u v)
  where
    go : (t : Bool) → is_real_time (byte_kind b) ≡ t → without_real_time (u ++ v) ≡ without_real_time u ++ without_real_time v
        → without_real_time (b ∷ (u ++ v)) ≡ without_real_time (b ∷ u) ++ without_real_time v
    go true q i = rw q i
    go false q i = rw (q, i)

-- F0H and F7H are not real time.
pub without_framed : (b : List ℕ) → without_real_time (framed b) ≡ framed (without_real_time b)
unfolding without_real_time
without_framed b = rw (kind_is exclusive 0xF0 refl, without_append b (0xF7 ∷ []), kind_is endOfExclusive 0xF7 refl)

-- What is left of a body without its real time is data bytes.
pub content_data : (t : List ℕ) → All (λ b. b < 0x80) (without_real_time (body t))
unfolding body without_real_time
content_data [] = tt
content_data (b ∷ t) = by_its_kind (byte_kind b) refl (content_data t)
  where
    by_its_kind : (k : ByteKind) → byte_kind b ≡ k → All (λ b. b < 0x80) (without_real_time (body t)) → All (λ b. b < 0x80) (without_real_time (body (b ∷ t)))
    by_its_kind dataByte q i = rw q (rw q (lies_in dataByte b q, i))
    by_its_kind exclusive q i = rw q tt
    by_its_kind endOfExclusive q i = rw q tt
    by_its_kind otherStatus q i = rw q tt
    by_its_kind realTime q i = rw q (rw q i)

module _ (judge : List ℕ → Verdict) where
  -- An F0H at place f before data bytes and F7H is a message of those bytes.
  message_framed : (f : ℕ) (c behind : List ℕ) → All DataByte c
      → message_at judge f (c ++ 0xF7 ∷ behind) ≡ report f (f + length (framed c)) (judge (framed c)) 0
  message_framed f c behind a =
      let whole = body_data c behind a in
      let rest : drop (length (body (c ++ 0xF7 ∷ behind))) (c ++ 0xF7 ∷ behind) ≡ 0xF7 ∷ behind = rw whole (drop-append_seam c (0xF7 ∷ behind)) in
      let last : suc (suc f + length c) ≡ f + length (framed c) = omega (arith, length-append c (0xF7 ∷ [])) in
      closed_message judge f (c ++ 0xF7 ∷ behind) behind rest ∙ rw (whole, without_data c a, quiet_data c a, last)

  -- The walk from the place of a message of data bytes finds that message.
  pub walk_framed : (before c behind : List ℕ) → All DataByte c
      → walk judge (before ++ (framed c ++ behind)) (length before)
      ≡ some (report (length before) (length before + length (framed c)) (judge (framed c)) 0)
  unfolding walk first_from
  walk_framed before c behind a =
      rw (drop-append_seam before (framed c ++ behind), append_assoc c (0xF7 ∷ []) behind) (ap some (message_framed (length before) c behind a))

  -- The scan from outside reports it, and goes on behind it.
  pub scan_framed : (p : ℕ) (c behind : List ℕ) → All DataByte c
      → scan judge p outside (framed c ++ behind)
      ≡ report p (p + length (framed c)) (judge (framed c)) 0 ∷ scan judge (p + length (framed c)) outside behind
  scan_framed p c behind a =
      let last : suc (suc p + length c) ≡ p + length (framed c) = omega (arith, length-append c (0xF7 ∷ [])) in
      rw (kind_is exclusive 0xF0 refl, append_assoc c (0xF7 ∷ []) behind, scan_close judge c a (suc p) p 0 [] behind, last)

  -- What the walk finds: an F0H, and the message there.
  pub record There (p : ℕ) (l : List ℕ) (r : Report) : Type 0 where
    pub skipped : ℕ
    pub rest : List ℕ
    pub at : drop skipped l ≡ 0xF0 ∷ rest
    pub found : r ≡ message_at judge (p + skipped) rest

  pub there : (l : List ℕ) (p : ℕ) (r : Report) → first_from judge p l ≡ some r → There p l r
  unfolding first_from
  there [] p r e = let z : ◌≡◌ {A = ℕ} 0 1 = cc in absurd (omega arith)
  there (b ∷ l) p r e = by_test (eqb b 0xF0) refl e (there l (suc p) r)
    where
      by_test : (t : Bool) → eqb b 0xF0 ≡ t → cond t (some (message_at judge p l)) (first_from judge (suc p) l) ≡ some r
          → (first_from judge (suc p) l ≡ some r → There (suc p) l r) → There p (b ∷ l) r
      by_test true q e i = record { skipped = 0; rest = l; at = rw (eqb-true b 0xF0 q); found = rw (add-zero p) (cc) }
      by_test false q e i =
          let h = i e in
          record { skipped = suc h.skipped; rest = h.rest; at = h.at; found = rw (further p h.skipped) h.found }

  -- A message that stands in a stream where a report says: dropping real time from its bytes leaves F0H, data bytes and F7H, and these are judged.
  pub record Complete (s : List ℕ) (r : Report) : Type 0 where
    pub content : List ℕ
    pub seven_bits : All (λ b. b < 0x80) content
    pub bytes : without_real_time (between s r.start r.end) ≡ framed content
    pub judged : r.verdict ≡ judge (framed content)

  -- The message behind an F0H at place f of a stream, before the bytes t, if it is answered 0.
  complete_at : (s : List ℕ) (f : ℕ) (t : List ℕ) → drop f s ≡ 0xF0 ∷ t → answer_of (message_at judge f t).verdict ≡ 0 → Complete s (message_at judge f t)
  complete_at s f t at z = by_end (drop (length (body t)) t) refl
    where
      by_test : (x : ℕ) (r : List ℕ) → drop (length (body t)) t ≡ x ∷ r → (c : Bool) → eqb x 0xF7 ≡ c → Complete s (message_at judge f t)
      by_test x r e true q =
          let e' : drop (length (body t)) t ≡ 0xF7 ∷ r = e ∙ ap (λ (y : ℕ). y ∷ r) (eqb-true x 0xF7 q) in
          let size : suc (suc f + length (body t)) - f ≡ suc (length (body t) + 1) = omega arith in
          rw (closed_message judge f t r e') (record {
            content = without_real_time (body t);
            seven_bits = content_data t;
            bytes = rw (size, at, body_closed t r e') (without_framed (body t));
            judged = refl;
          })
      by_test x r e false q =
          let i = interrupted_message judge f t x r e (eqb-false x 0xF7 q) in
          absurd (omega (arith, rw i at z))

      by_end : (w : List ℕ) → drop (length (body t)) t ≡ w → Complete s (message_at judge f t)
      by_end [] e = absurd (omega (arith, rw (cut_message judge f t e) at z))
      by_end (x ∷ r) e = by_test x r e (eqb x 0xF7) refl

  -- A message that the walk finds, if it is answered 0, is complete.
  pub complete : (s : List ℕ) (p : ℕ) (r : Report) → walk judge s p ≡ some r → answer_of r.verdict ≡ 0 → Complete s r
  unfolding walk
  complete s p r e z =
      let h = there (drop p s) p r e in
      let at = sym (drop-drop h.skipped p s) ∙ h.at in
      rw h.found (complete_at s (p + h.skipped) h.rest at (rw h.found at z))
