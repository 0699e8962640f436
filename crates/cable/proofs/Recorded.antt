-- The packed bytes of a message in the reader's room: there is always room, and the outcome says how many they are.
use mathlib.Core.Path.{◌≡◌, refl, sym, ap, ◌∙◌}
use mathlib.Core.List.{List}
use Prim.Native.Nat.{ℕ, ◌≤◌}
use native.Mathlib.Nat.{mod-eq_of_lt}
use native.Mathlib.Omega.{arith}
use lib.ListN.{length, length-replicate}
use borrow.Author.Tests.{le-leb, ne_eqb}
use Rattle.answers.specs.Table.{Verdict, done, refused, outcome, outcome_of, answer_of}
use Rattle.answers.specs.Effect.{Gives, at_start}
use Rattle.streams.specs.Bytes.{framed}
use Rattle.streams.specs.Stream.{packed_in}
use Rattle.messages.specs.Kinds.{master}
use Rattle.messages.specs.Judge.{judge}
use Rattle.messages.proofs.Accepted.{Accepted, accepted}
use Rattle.messages.proofs.Numbers.{refused_number}
use Rattle.judging.specs.code.Judged.{Judged, judged, recorded_as}
use Rattle.judging.proofs.Records.{packed, packed_length}
use Rattle.cable.specs.Cable.{room, cleared}
use Rattle.cable.specs.code.Steps.{size_told}

pub room_is : length cleared ≡ room
unfolding cleared
room_is = length-replicate {A = ℕ} room 0

-- What is known of a verdict: its packed bytes are no more than a master's, and its outcome says how many.
pub record Known (v : Verdict) : Type 0 where
  pub small : length (packed_in v) ≤ master
  pub size : size_told (outcome_of v) ≡ length (packed_in v)

pub known_refused : (n : ℕ) → (n ≡ 0 → ⊥) → Known (refused (outcome n 0))
known_refused n h = record { small = omega arith; size = rw (ne_eqb n 0 h) }

pub known_judge : (c : List ℕ) → Known (judge (framed c))
known_judge c = by_verdict (judge (framed c)) refl
  where
    by_verdict : (v : Verdict) → judge (framed c) ≡ v → Known v
    by_verdict (refused o) q = record { small = omega arith; size = rw (ne_eqb o.answer 0 (refused_number (framed c) o q).0) }
    by_verdict (done o b p) q =
        let its : Accepted c = accepted c (ap answer_of q) in
        let j = judged (judge (framed c)) in
        let same : p ≡ packed c its = cc its.verdict in
        let opcode : o ≡ its.opcode = cc its.verdict in
        let l : length p ≡ its.size = ap length same ∙ packed_length c j refl its in
        record {
          small = omega (arith, l, its.small);
          size = rw (opcode, mod-eq_of_lt its.below) (its.found ∙ sym l);
        }

-- Recorded into the cleared room, a message has its own answer, and its packed bytes stand there: 13 never arises.
pub recorded : (v : Verdict) → Known v → (j : Judged) (after : List ℕ) → Gives (recorded_as v cleared) j after
    → (j ≡ judged v) × (after ≡ at_start (packed_in v) cleared)
recorded (refused o) k j after g = (g.result, g.lent)
recorded (done o b p) k j after g =
    let fits = le-leb (length p) (length cleared) (omega (arith, k.small, room_is)) in
    let h = rw fits at g in
    (h.result, h.lent)
