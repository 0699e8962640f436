-- What a step comes to: each operation as it is sent, in bytes; a message that is refused, one of another kind, several; and as the code tells it.
use Rattle.std.specs.Prelude.{◌≡◌, Bool, true, false, cond, ◌||◌, List, [], ◌∷◌, ◌↔◌, ◌⊎◌, ℕ, zero, suc, ◌-◌, ◌≤◌, eqb, length, take, drop, replicate}
use Rattle.std.proofs.Math.Option.{none, some}
use Rattle.streams.specs.Stream.{Report, walk, reports}
use Rattle.messages.specs.Judge.{judge}
use Rattle.reading.specs.code.Told.{walked}
use Rattle.units.specs.declared.Step.{Step}
use Rattle.units.specs.Units.{Unit, Stepped, meant_for, stays, step_by, stepping}
use Rattle.units.specs.code.Steps.{steps}

-- A unit, field by field.
abbrev pub unit_of : ℕ → Bool → Bool → ℕ → Unit
unit_of b l g n = record { bank = b; locked = l; grouped = g; number = n }

abbrev pub stepped : Unit → List ℕ → Bool → Stepped
stepped u sent meant = record { unit = u; sent = sent; meant = meant }

-- A unit fed a stream: step after step from a place on, each from the last end, until there is no message.
abbrev pub after_steps : ℕ → Unit → List ℕ → ℕ → Unit
after_steps zero u s p = u
after_steps (suc n) u s p = elim (walk judge s p) [ none ↦ u | some r ↦ after_steps n (stepping u s p).unit s r.end ]

-- By what its messages come to, one after the other.
abbrev pub after_all : Unit → List Report → Unit
after_all u [] = u
after_all u (r ∷ rs) = after_all (step_by u r.verdict).unit rs

-- The bytes that a step sends on.
abbrev pub sent_by : Step → List ℕ
sent_by t = take t.count t.sent

pub record Followed : Type 0 where
  -- 0AH: the bank, and the lock.
  pub bank : (b : ℕ) (l g : Bool) (n new : ℕ) → new ≤ 9
      → stepping (unit_of b l g n) (0xF0 ∷ 0x10 ∷ 0x06 ∷ 0x0A ∷ new ∷ 0xF7 ∷ []) 0 ≡ stepped (unit_of new true g n) [] false
  -- 0CH: the lock.
  pub unlock : (b : ℕ) (l g : Bool) (n : ℕ)
      → stepping (unit_of b l g n) (0xF0 ∷ 0x10 ∷ 0x06 ∷ 0x0C ∷ 0xF7 ∷ []) 0 ≡ stepped (unit_of b false g n) [] false
  -- 07H: group on, the number; sent on with the ID raised by one, unless it is 5.
  pub group : (b : ℕ) (l g : Bool) (n total id : ℕ) → 2 ≤ total → total ≤ 6 → id ≤ 5
      → stepping (unit_of b l g n) (0xF0 ∷ 0x10 ∷ 0x06 ∷ 0x07 ∷ total ∷ id ∷ 0xF7 ∷ []) 0
      ≡ stepped (unit_of b l true id) (cond (eqb id 5) [] (0xF0 ∷ 0x10 ∷ 0x06 ∷ 0x07 ∷ total ∷ suc id ∷ 0xF7 ∷ [])) false
  -- 0EH: nothing changes; meant for this unit out of a group by 0, in one by its own number or 7FH.
  pub store : (b : ℕ) (l : Bool) (n number bank id : ℕ) → number ≤ 99 → bank ≤ 9 → (id ≤ 5) ⊎ (id ≡ 0x7F)
      → let m : List ℕ = 0xF0 ∷ 0x10 ∷ 0x06 ∷ 0x0E ∷ number ∷ bank ∷ id ∷ 0xF7 ∷ [] in
      (stepping (unit_of b l false n) m 0 ≡ stepped (unit_of b l false n) [] (eqb id 0))
      × (stepping (unit_of b l true n) m 0 ≡ stepped (unit_of b l true n) [] (eqb id 0x7F || eqb id n))
  -- No other message changes anything or sends anything on: 04H, an edit, a dump.
  pub other : (u : Unit) (s : List ℕ) (place : ℕ)
      → let opcode = (walked s place).outcome.detail in
      (opcode ≡ 0x07 → ⊥) → (opcode ≡ 0x0A → ⊥) → (opcode ≡ 0x0C → ⊥) → (opcode ≡ 0x0E → ⊥) → stepping u s place ≡ stays u
  -- Nor does one that is refused; nor where there is none.
  pub refused : (u : Unit) (s : List ℕ) (place : ℕ) → ((walked s place).outcome.answer ≡ 0 → ⊥) → stepping u s place ≡ stays u
  -- From any place: by what the message comes to that the walk finds.
  pub found : (u : Unit) (s : List ℕ) (place : ℕ) (r : Report) → walk judge s place ≡ some r → stepping u s place ≡ step_by u r.verdict
  -- A whole stream: by all its messages.
  pub several : (u : Unit) (s : List ℕ) → after_steps (length s) u s 0 ≡ after_all u (reports judge s)
  -- Meant for a unit, by any ID.
  pub meant : (u : Unit) (id : ℕ)
      → (meant_for u id ≡ true) ↔ (((u.grouped ≡ false) × (id ≡ 0)) ⊎ ((u.grouped ≡ true) × ((id ≡ u.number) ⊎ (id ≡ 0x7F))))
  -- The code tells the step: the unit after it, whether it is meant, the bytes that are sent on, and zeros behind them.
  pub told_unit : (u : Unit) (s : List ℕ) (place : ℕ) → (steps u s place).unit ≡ (stepping u s place).unit
  pub told_meant : (u : Unit) (s : List ℕ) (place : ℕ) → (steps u s place).meant ≡ (stepping u s place).meant
  pub told_sent : (u : Unit) (s : List ℕ) (place : ℕ) → sent_by (steps u s place) ≡ (stepping u s place).sent
  pub told_zeros : (u : Unit) (s : List ℕ) (place : ℕ) → let t = steps u s place in drop t.count t.sent ≡ replicate (7 - t.count) 0
