-- The two edits: done, one changes its own bytes to the values as stored and no other, and the patch stays accepted; refused, it changes
-- nothing. Rows that pass give the place and the ranges; the laws of a stored byte give the rest.
use mathlib.Core.Path.{◌≡◌, refl, ap, ◌∙◌, subst}
use mathlib.Core.Bool.{Bool, true, false}
use mathlib.Core.List.{List, [], ◌∷◌, ◌++◌}
use mathlib.Core.Option.{Option, none, some}
use Prim.Native.Nat.{ℕ, suc, ◌+◌, ◌*◌, ◌≤◌, ◌<◌}
use native.Mathlib.Omega.{arith}
use lib.Dec.{eqb}
use lib.ListN.{length, get_or, set, length-set}
use lib.Seq.{get_or-set_same, get_or-set_other}
use borrow.Author.Tests.{eqb-true, eqb-false}
use Rattle.answers.specs.declared.Outcome.{Outcome}
use Rattle.answers.specs.Table.{Row, done, first, outcome}
use Rattle.answers.specs.Effect.{Effect, changed, tested}
use Rattle.answers.proofs.Rows.{Refusals, both_refusals, first_passed, done_passed, silent_parts, answered_silent}
use Rattle.answers.proofs.Effects.{changed_silent}
use Rattle.answers.specs.promises.Decides.{Silent}
use Rattle.ranges.specs.Ranges.{out_from}
use Rattle.ranges.proofs.Runs.{one_in, out_set}
use Rattle.fields.specs.Fields.{fields, in_range, value_at, place_of}
use Rattle.patch.specs.Patch.{first_out, half_used, patch_rows, held}
use Rattle.patch.proofs.Parameters.{held_done}
use Rattle.patch.proofs.Tests.{patch_refusals, fields_pass, patch_length}
use Rattle.fields.proofs.Rules.{place_is_found}
use Rattle.patch.proofs.Accepted.{Whole, each_whole, patch_accepted}
use Rattle.edits.specs.Edits.{extended, stored_for, edit_rows, bus_rows, with_byte, with_bus, applying, applying_bus}
use Rattle.edits.specs.promises.Done.{EditDone, BusDone}
use Rattle.edits.proofs.Tests.{rows_at, rows_nowhere, edit_refusals, bus_refusals, value_inside, bus_number, bus_amount, bus_bytes, bus_whole}

-- Rows of refusals and the patch's behind them that change a patch with answer 0 come to `done`.
answered_done : (rows : List Row) (new p : List ℕ) → Refusals rows
    → (changed 0 new p (first (rows ++ patch_rows p) (done 0 [] []))).result.answer ≡ 0
    → first (rows ++ patch_rows p) (done 0 [] []) ≡ done 0 [] []
answered_done rows new p a e =
    let all = both_refusals rows (patch_rows p) a (patch_refusals p) in
    first_passed (rows ++ patch_rows p) (done 0 [] []) (changed_silent 0 new p (rows ++ patch_rows p) all e)

-- A remote edit that is answered 0 is done: no row of its own says anything, and none of the patch's.
pub edit_done : (n v : ℕ) (p : List ℕ) → (applying n v p).result.answer ≡ 0 → first (edit_rows n v ++ patch_rows p) (done 0 [] []) ≡ done 0 [] []
unfolding applying
edit_done n v p e = answered_done (edit_rows n v) (with_byte (place_of n) (stored_for n v) p) p (edit_refusals n v) e

-- So is a matrix modulation edit.
pub bus_done : (b s a d : ℕ) (p : List ℕ) → (applying_bus b s a d p).result.answer ≡ 0
    → first (bus_rows b s a d ++ patch_rows p) (done 0 [] []) ≡ done 0 [] []
unfolding applying_bus
bus_done b s a d p e = answered_done (bus_rows b s a d) (with_bus b s a d p) p (bus_refusals b s a d) e

-- A patch whose rows say nothing has each byte in range, and whole buses.
patch_whole : (p : List ℕ) → Silent (patch_rows p) → (first_out p ≡ none) × ((c : ℕ) → c < 10 → Whole p c)
patch_whole p a = let f = fields_pass p a.1 in (f.0, λ c k. each_whole 10 0 p f.1 c (omega arith) (omega arith))

-- One byte stored below the buses.
one_stored : (p : List ℕ) (k b : ℕ) → Silent (patch_rows p) → k < 104 → in_range k b ≡ true → tested (patch_rows (set p k b)) ≡ outcome 0 0
one_stored p k b a l h =
    let w = patch_whole p a in
    let at : 0 + k ≡ k = omega arith in
    let same : (i : ℕ) → 104 ≤ i → get_or (set p k b) i 0 ≡ get_or p i 0 = λ i g. get_or-set_other p k i b 0 (λ e. omega arith) in
    patch_accepted (set p k b) (length-set p k b ∙ patch_length p a) (out_set fields 0 k b p w.0 (rw at h))
    (λ c g. rw (same (104 + 3 * c) (omega arith), same (106 + 3 * c) (omega arith)) (w.1 c g))

edit_stored : (n v k : ℕ) (p : List ℕ) → place_of n ≡ some k → first (edit_rows n v ++ patch_rows p) (done 0 [] []) ≡ done 0 [] []
    → applying n v p ≡ record { result = outcome 0 0; lent = set p k (stored_for n v) }
unfolding applying
edit_stored n v k p q e =
    ap (changed 0 (with_byte (place_of n) (stored_for n v) p) p) e
    ∙ ap (λ (o : Option ℕ). changed 0 (with_byte o (stored_for n v) p) p (done 0 [] [])) q

edit_at : (n v k : ℕ) (p : List ℕ) → place_of n ≡ some k → first (edit_rows n v ++ patch_rows p) (done 0 [] []) ≡ done 0 [] [] → EditDone n v p
edit_at n v k p q e =
    let silent = silent_parts (edit_rows n v) (patch_rows p) (done_passed (edit_rows n v ++ patch_rows p) (done 0 [] []) 0 [] [] e).0 in
    let quiet = silent.1 in
    let edit = subst Silent (rows_at n v k q) silent.0 in
    let sits = place_is_found n k q in
    let l = patch_length p quiet in
    let new = edit_stored n v k p q e in
    let to = ap (λ (f : Effect Outcome). f.lent) new in
    let own = ap (λ (r : List ℕ). get_or r k 0) to ∙ get_or-set_same p k (stored_for n v) 0 (omega arith) in
    let kept = ap (λ (r : List ℕ). tested (patch_rows r)) to ∙ one_stored p k (stored_for n v) quiet sits.high (value_inside k n v edit) in
    let after = (applying n v p).lent in
    let still = answered_silent (patch_rows after) (patch_refusals after) (ap (λ (o : Outcome). o.answer) kept) in
    record {
      place = k;
      found = q;
      inside = omega arith;
      answered = ap (λ (f : Effect Outcome). f.result) new;
      stored = to;
      own = own;
      others = λ i h. ap (λ (r : List ℕ). get_or r i 0) to ∙ get_or-set_other p k i (stored_for n v) 0 h;
      accepted = kept;
      told = held_done n after k q still ∙ ap (λ (b : ℕ). held (outcome 0 0) (value_at k b)) own;
    }

-- A remote edit that is done changes its own field to the value as stored and no other byte, and the patch stays accepted.
pub edit_own_field : (n v : ℕ) (p : List ℕ) → first (edit_rows n v ++ patch_rows p) (done 0 [] []) ≡ done 0 [] [] → EditDone n v p
edit_own_field n v p e = go (place_of n) refl
  where
    go : (o : Option ℕ) → place_of n ≡ o → EditDone n v p
    go none q =
        let refuses = ap (λ (rows : List Row). first (rows ++ patch_rows p) (done 0 [] [])) (rows_nowhere n v q) in
        let z : ◌≡◌ {A = ℕ} 0 1 = cc in
        absurd (omega arith)
    go (some k) q = edit_at n v k p q e

-- The three bytes of a bus of 134 bytes, stored.
module _ (b s a d : ℕ) (p : List ℕ) (h : b ≤ 9) (l : length p ≡ 134) where
  abbrev one : List ℕ
  one = set p (104 + 3 * b) s

  abbrev two : List ℕ
  two = set one (105 + 3 * b) (extended a)

  with_length : length (with_bus b s a d p) ≡ 134
  unfolding with_bus
  with_length = simp length-set l

  with_others : (i : ℕ) → (i ≡ 104 + 3 * b → ⊥) → (i ≡ 105 + 3 * b → ⊥) → (i ≡ 106 + 3 * b → ⊥) → get_or (with_bus b s a d p) i 0 ≡ get_or p i 0
  unfolding with_bus
  with_others i n₀ n₁ n₂ =
      get_or-set_other two (106 + 3 * b) i d 0 n₂ ∙ get_or-set_other one (105 + 3 * b) i (extended a) 0 n₁
      ∙ get_or-set_other p (104 + 3 * b) i s 0 n₀

  with_source : get_or (with_bus b s a d p) (104 + 3 * b) 0 ≡ s
  unfolding with_bus
  with_source =
      get_or-set_other two (106 + 3 * b) (104 + 3 * b) d 0 (λ e. omega arith)
      ∙ get_or-set_other one (105 + 3 * b) (104 + 3 * b) (extended a) 0 (λ e. omega arith)
      ∙ get_or-set_same p (104 + 3 * b) s 0 (omega arith)

  with_amount : get_or (with_bus b s a d p) (105 + 3 * b) 0 ≡ extended a
  unfolding with_bus
  with_amount =
      get_or-set_other two (106 + 3 * b) (105 + 3 * b) d 0 (λ e. omega arith)
      ∙ get_or-set_same one (105 + 3 * b) (extended a) 0 (simp length-set (omega arith))

  with_destination : get_or (with_bus b s a d p) (106 + 3 * b) 0 ≡ d
  unfolding with_bus
  with_destination = get_or-set_same two (106 + 3 * b) d 0 (simp length-set (omega arith))

  with_whole : half_used s d ≡ false → ((c : ℕ) → c < 10 → Whole p c) → (c : ℕ) → c < 10 → Whole (with_bus b s a d p) c
  with_whole u w c k = go (eqb c b) refl
    where
      go : (t : Bool) → eqb c b ≡ t → Whole (with_bus b s a d p) c
      go true q = let same = eqb-true c b q in rw (same, with_source, with_destination) u
      go false q =
          let other = eqb-false c b q in
          let first_byte = with_others (104 + 3 * c) (λ e. other (omega arith)) (λ e. omega arith) (λ e. omega arith) in
          let last_byte = with_others (106 + 3 * c) (λ e. omega arith) (λ e. omega arith) (λ e. other (omega arith)) in
          rw (first_byte, last_byte) (w c k)

  with_ranges : first_out p ≡ none → out_from fields (104 + 3 * b) (s ∷ extended a ∷ d ∷ []) ≡ none → first_out (with_bus b s a d p) ≡ none
  unfolding with_bus
  with_ranges e o =
      let in₀ = one_in fields (104 + 3 * b) s (extended a ∷ d ∷ []) o in
      let in₁ = one_in fields (suc (104 + 3 * b)) (extended a) (d ∷ []) in₀.1 in
      let in₂ = one_in fields (suc (suc (104 + 3 * b))) d [] in₁.1 in
      let k₀ : 104 + 3 * b ≡ 0 + (104 + 3 * b) = omega arith in
      let k₁ : suc (104 + 3 * b) ≡ 0 + (105 + 3 * b) = omega arith in
      let k₂ : suc (suc (104 + 3 * b)) ≡ 0 + (106 + 3 * b) = omega arith in
      let e₀ = out_set fields 0 (104 + 3 * b) s p e (subst (λ (k : ℕ). in_range k s ≡ true) k₀ in₀.0) in
      let e₁ = out_set fields 0 (105 + 3 * b) (extended a) one e₀ (subst (λ (k : ℕ). in_range k (extended a) ≡ true) k₁ in₁.0) in
      out_set fields 0 (106 + 3 * b) d two e₁ (subst (λ (k : ℕ). in_range k d ≡ true) k₂ in₂.0)

bus_stored : (b s a d : ℕ) (p : List ℕ) → first (bus_rows b s a d ++ patch_rows p) (done 0 [] []) ≡ done 0 [] []
    → applying_bus b s a d p ≡ record { result = outcome 0 0; lent = with_bus b s a d p }
unfolding applying_bus
bus_stored b s a d p e = ap (changed 0 (with_bus b s a d p) p) e

-- A matrix modulation edit that is done changes the three bytes of its bus and no other byte, and the patch stays accepted.
pub bus_own_field : (b s a d : ℕ) (p : List ℕ) → first (bus_rows b s a d ++ patch_rows p) (done 0 [] []) ≡ done 0 [] [] → BusDone b s a d p
bus_own_field b s a d p e =
    let silent = silent_parts (bus_rows b s a d) (patch_rows p) (done_passed (bus_rows b s a d ++ patch_rows p) (done 0 [] []) 0 [] [] e).0 in
    let edit = silent.0 in
    let quiet = silent.1 in
    let w = patch_whole p quiet in
    let l = patch_length p quiet in
    let h = bus_number b s a d edit in
    let new = bus_stored b s a d p e in
    let to = ap (λ (f : Effect Outcome). f.lent) new in
    record {
      bus = h;
      seven_bits = bus_amount b s a d edit;
      answered = ap (λ (f : Effect Outcome). f.result) new;
      stored = to;
      source = ap (λ (r : List ℕ). get_or r (104 + 3 * b) 0) to ∙ with_source b s a d p h l;
      amount = ap (λ (r : List ℕ). get_or r (105 + 3 * b) 0) to ∙ with_amount b s a d p h l;
      destination = ap (λ (r : List ℕ). get_or r (106 + 3 * b) 0) to ∙ with_destination b s a d p h l;
      others = λ i n₀ n₁ n₂. ap (λ (r : List ℕ). get_or r i 0) to ∙ with_others b s a d p h l i n₀ n₁ n₂;
      accepted =
          ap (λ (r : List ℕ). tested (patch_rows r)) to
          ∙ patch_accepted (with_bus b s a d p) (with_length b s a d p h l) (with_ranges b s a d p h l w.0 (bus_bytes b s a d edit))
          (with_whole b s a d p h l (bus_whole b s a d edit) w.1);
    }
