-- A message's packed bytes in a lent buffer: by the answer that it is given, and by the room there is.
use mathlib.Core.Path.{◌≡◌, refl, sym, ap, ◌∙◌}
use mathlib.Core.List.{List, ◌++◌}
use Prim.Native.Nat.{ℕ, zero, suc, ◌+◌, ◌*◌, ◌≤◌, ◌<◌}
use native.Mathlib.Omega.{arith}
use lib.ListN.{length, drop}
use borrow.Author.Tests.{le-leb, lt-leb}
use Rattle.answers.specs.Table.{Verdict, done, refused, outcome}
use Rattle.answers.specs.Effect.{Gives}
use Rattle.streams.specs.Bytes.{framed}
use Rattle.nibbles.specs.Nibbles.{pack}
use Rattle.nibbles.proofs.Laws.{length_pack}
use Rattle.messages.specs.Judge.{judge}
use Rattle.messages.proofs.Accepted.{Accepted, accepted}
use Rattle.judging.specs.code.Content.{sent_in}
use Rattle.judging.specs.code.Judged.{Judged, judged, refused_by, recorded_as}
use Rattle.judging.proofs.Places.{sent_length}

-- The packed bytes of an accepted message.
abbrev pub packed : (c : List ℕ) → Accepted c → List ℕ
packed c its = pack (sent_in its.size c)

module _ (c : List ℕ) (j : Judged) (q : j ≡ judged (judge (framed c))) where
  -- Answer 0 is an accepted message.
  pub accepted_so : j.outcome.answer ≡ 0 → Accepted c
  accepted_so z = accepted c (sym (ap (λ (x : Judged). x.outcome.answer) q) ∙ z)

  -- Refused: the buffer keeps its bytes.
  pub record_refused : (lent : List ℕ) → (j.outcome.answer ≡ 0 → ⊥) → Gives (recorded_as (judge (framed c)) lent) j lent
  record_refused lent n = by_verdict (judge (framed c)) q
    where
      by_verdict : (v : Verdict) → j ≡ judged v → Gives (recorded_as v lent) j lent
      by_verdict (done o b p) z = absurd (n (ap (λ (x : Judged). x.outcome.answer) z))
      by_verdict (refused o) z = record { result = z; lent = refl }

  module _ (its : Accepted c) where
    pub packed_length : length (packed c its) ≡ its.size
    unfolding pack
    packed_length = by_size its.size its.fits
      where
        by_size : (n : ℕ) → (0 < n → 4 + 2 * n < length c) → length (pack (sent_in n c)) ≡ n
        by_size zero h = refl
        by_size (suc n) h = omega (arith, length_pack (sent_in (suc n) c), sent_length (suc n) c (omega (arith, h (omega arith))))

    -- Too short a buffer, and one with room.
    pub record_short : (lent : List ℕ) (r : Judged) → length lent < its.size → r ≡ refused_by (outcome 13 0)
        → Gives (recorded_as (judge (framed c)) lent) r lent
    record_short lent r h k =
        rw (its.verdict, lt-leb (length (packed c its)) (length lent) (omega (arith, packed_length))) (record { result = k; lent = refl })

    pub record_stored : (lent after : List ℕ) → its.size ≤ length lent → after ≡ packed c its ++ drop its.size lent
        → Gives (recorded_as (judge (framed c)) lent) j after
    record_stored lent after h s =
        rw (its.verdict, le-leb (length (packed c its)) (length lent) (omega (arith, packed_length)))
        (record { result = q ∙ rw its.verdict; lent = s ∙ rw packed_length })

    -- A message that is no dump leaves the buffer as it was.
    pub nothing_packed : (lent : List ℕ) → its.size ≡ 0 → lent ≡ packed c its ++ drop its.size lent
    unfolding pack
    nothing_packed lent k = rw k
