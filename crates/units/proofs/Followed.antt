-- What a step comes to, in bytes: an operation as it is sent does what its bytes say; no other opcode finds a kind that does anything.
use mathlib.Core.Path.{◌≡◌, refl}
use mathlib.Core.Bool.{Bool, true, false, cond, ◌||◌}
use mathlib.Core.List.{List, [], ◌∷◌}
use mathlib.Core.Logic.{◌↔◌, ◌⊎◌, inl, inr}
use mathlib.Core.Option.{Option, none, some}
use Prim.Native.Nat.{ℕ, zero, suc, ◌≤◌}
use native.Mathlib.Omega.{arith}
use lib.Dec.{eqb, ltb}
use lib.ListN.{length}
use borrow.Author.Tests.{lt-ltb, le-ltb, eqb-true, eqb-false, eq-eqb}
use Rattle.answers.specs.Table.{Verdict, done, refused, outcome_of}
use Rattle.streams.specs.Stream.{Report, walk, reports_from, reports}
use Rattle.operations.specs.declared.Operation.TheVariants.{Bank as a_bank, Unlock as an_unlock, Store as a_store}
use Rattle.operations.proofs.Numbers.{in_numbers}
use Rattle.messages.specs.declared.kinds.Kind.{Kind}
use Rattle.messages.specs.Kinds.{opcode_of, kind_of, is_unknown}
use Rattle.messages.specs.Judge.{judge}
use Rattle.messages.proofs.Filed.{every_kind, found_opcode}
use Rattle.reading.specs.code.Told.{report_or}
use Rattle.units.specs.Units.{Unit, Stepped, group_message, meant_for, stays, by_kind, step_by, step_or, stepping}
use Rattle.units.specs.promises.Followed.{unit_of, stepped, after_steps, after_all, Followed}
use Rattle.units.proofs.Fed.{fed, group_step}
use Rattle.units.proofs.Steps.{refused_stays}
use Rattle.units.proofs.Sent.{told_sent, told_zeros}

group : (b : ℕ) (l g : Bool) (n total id : ℕ) → 2 ≤ total → total ≤ 6 → id ≤ 5
    → stepping (unit_of b l g n) (group_message total id) 0 ≡ stepped (unit_of b l true id) (cond (eqb id 5) [] (group_message total (suc id))) false
group b l g n total id t h i = rw (group_step total id t h i (unit_of b l g n)) (by_id (eqb id 5) refl)
  where
    by_id : (t : Bool) → eqb id 5 ≡ t → stepped (unit_of b l true id) (cond (ltb id 5) (group_message total (suc id)) []) false
        ≡ stepped (unit_of b l true id) (cond t [] (group_message total (suc id))) false
    by_id true q = rw (le-ltb id 5 (omega (arith, eqb-true id 5 q)))
    by_id false q = let other = eqb-false id 5 q in rw (lt-ltb id 5 (omega arith))

-- No opcode but four finds a kind that does anything.
module _ (u : Unit) (opcode : ℕ) (a : opcode ≡ 0x07 → ⊥) (b : opcode ≡ 0x0A → ⊥) (c : opcode ≡ 0x0C → ⊥) (d : opcode ≡ 0x0E → ⊥) where
  abbrev Quiet : Kind → Type 0
  Quiet k = (is_unknown k ≡ false → opcode ≡ opcode_of k) → (bytes : List ℕ) → by_kind u k bytes ≡ stays u

  quiet_kind : Quiet (kind_of opcode)
  quiet_kind =
      every_kind Quiet (λ e bytes. refl) (
        λ e bytes. refl,
        (
          λ e bytes. refl,
          (
            λ e bytes. refl,
            (
              λ e bytes. refl,
              (
                λ e bytes. refl,
                (
                  λ e bytes. absurd (a (e refl)),
                  (
                    λ e bytes. absurd (b (e refl)),
                    (
                      λ e bytes. refl,
                      (λ e bytes. absurd (c (e refl)), (λ e bytes. refl, (λ e bytes. absurd (d (e refl)), tt))),
                    ),
                  ),
                ),
              ),
            ),
          ),
        ),
      )
      opcode

  quiet : (v : Verdict) → (outcome_of v).detail ≡ opcode → step_by u v ≡ stays u
  quiet (done o bytes p) e = rw e (quiet_kind (found_opcode opcode) bytes)
  quiet (refused o) e = refl

other : (u : Unit) (s : List ℕ) (o : Option Report)
    → let opcode = (report_or (length s) o).outcome.detail in
    (opcode ≡ 0x07 → ⊥) → (opcode ≡ 0x0A → ⊥) → (opcode ≡ 0x0C → ⊥) → (opcode ≡ 0x0E → ⊥) → step_or u o ≡ stays u
other u s none a b c d = refl
other u s (some r) a b c d = quiet u (outcome_of r.verdict).detail a b c d r.verdict refl

-- Step after step is message after message.
module _ (s : List ℕ) where
  after : (n : ℕ) (u : Unit) (p : ℕ) → after_steps n u s p ≡ after_all u (reports_from judge n s p)
  unfolding stepping
  after zero u p = refl
  after (suc n) u p = by_walk (walk judge s p) (stepping u s p) refl (after n)
    where
      by_walk : (o : Option Report) (x : Stepped) → x ≡ step_or u o → ((u : Unit) (p : ℕ) → after_steps n u s p ≡ after_all u (reports_from judge n s p))
          → elim o [ none ↦ u | some r ↦ after_steps n x.unit s r.end ] ≡ after_all u (elim o [ none ↦ [] | some r ↦ r ∷ reports_from judge n s r.end ])
      by_walk none x e later = refl
      by_walk (some r) x e later = rw e (later (step_by u r.verdict).unit r.end)

several : (u : Unit) (s : List ℕ) → after_steps (length s) u s 0 ≡ after_all u (reports judge s)
unfolding reports
several u s = after s (length s) u 0

-- Meant for a unit, by any ID.
abbrev ForUnit : Bool → ℕ → ℕ → Type 0
ForUnit g n id = ((g ≡ false) × (id ≡ 0)) ⊎ ((g ≡ true) × ((id ≡ n) ⊎ (id ≡ 0x7F)))

meant_so : (g : Bool) (n id : ℕ) → cond g (eqb id 0x7F || eqb id n) (eqb id 0) ≡ true → ForUnit g n id
meant_so false n id e = inl (refl, eqb-true id 0 e)
meant_so true n id e = by_any (eqb id 0x7F) refl e
  where
    by_any : (t : Bool) → eqb id 0x7F ≡ t → (t || eqb id n) ≡ true → ForUnit true n id
    by_any true q e = inr (refl, inr (eqb-true id 0x7F q))
    by_any false q e = inr (refl, inl (eqb-true id n e))

so_meant : (g : Bool) (n id : ℕ) → ForUnit g n id → cond g (eqb id 0x7F || eqb id n) (eqb id 0) ≡ true
so_meant g n id (inl (e, z)) = rw (e, z)
so_meant g n id (inr (e, inr q)) = rw (e, q)
so_meant g n id (inr (e, inl q)) = rw (e, eq-eqb id n q) (by_any (eqb id 0x7F))
  where
    by_any : (t : Bool) → (t || true) ≡ true
    by_any true = refl
    by_any false = refl

meant : (u : Unit) (id : ℕ) → (meant_for u id ≡ true) ↔ ForUnit u.grouped u.number id
meant u id = (meant_so u.grouped u.number id, so_meant u.grouped u.number id)

pub followed : Followed
unfolding stepping kind_of
followed = record {
  bank = λ b l g n new h. fed 0x0A a_bank refl (new ∷ []) ((in_numbers.bank new).1 h) (unit_of b l g n);
  unlock = λ b l g n. fed 0x0C an_unlock refl [] in_numbers.unlock (unit_of b l g n);
  group = group;
  store = λ b l n number bank id p q i.
      let e = (in_numbers.store number bank id).1 (p, q, i) in
      (fed 0x0E a_store refl (number ∷ bank ∷ id ∷ []) e (unit_of b l false n), fed 0x0E a_store refl (number ∷ bank ∷ id ∷ []) e (unit_of b l true n));
  other = λ u s place. other u s (walk judge s place);
  refused = refused_stays;
  found = λ u s place r e. rw e;
  several = several;
  meant = meant;
  told_unit = λ u s place. refl;
  told_meant = λ u s place. refl;
  told_sent = told_sent;
  told_zeros = told_zeros;
}
