-- The test of bytes by a table answers by what the search finds, and the search finds the lowest place out of range.
use Rattle.std.proofs.Common.{◌≡◌, ℕ, ◌-◌, ◌<◌, true, List, length, get_or, ℤ, sym, refl, ap, ◌∙◌, arith, eq-eqb, ne_eqb}
use mathlib.Core.Option.{Option, none, some}
use Rattle.answers.specs.declared.Outcome.{Outcome}
use Rattle.answers.specs.Effect.{tested}
use Rattle.answers.specs.Table.{Found, found, outcome, outcome_at}
use Rattle.ranges.specs.Ranges.{Table, in_row, out_from, counted_rows}
use Rattle.ranges.specs.promises.Tables.{TestedBy}
use Rattle.ranges.proofs.Passes.{rows_in}
use Rattle.ranges.proofs.Runs.{lowest_out, lowest_only}

module _ (n : ℕ) (t : Table) where
  -- What the test of n bytes answers, by what the search finds.
  module _ (p : List ℕ) (l : length p ≡ n) where
    pub answered_none : out_from t 0 p ≡ none → tested (counted_rows n (some t) p) ≡ outcome 0 0
    answered_none e = rw (eq-eqb (length p) n l, e)

    pub answered_some : (j : ℕ) (v : ℤ) → out_from t 0 p ≡ some (found j v) → tested (counted_rows n (some t) p) ≡ outcome_at 11 j v
    answered_some j v e = rw (eq-eqb (length p) n l, e)

    all_in : out_from t 0 p ≡ none → (k : ℕ) → k < n → in_row t k (get_or p k 0) ≡ true
    all_in e k h =
        let here : k - 0 ≡ k = omega arith in
        rw here at ((lowest_out t 0 p).none_out e k (omega arith) (omega arith))

    -- Done, the search found nothing.
    passed_none : tested (counted_rows n (some t) p) ≡ outcome 0 0 → out_from t 0 p ≡ none
    passed_none e = go (out_from t 0 p) refl
      where
        go : (o : Option Found) → out_from t 0 p ≡ o → out_from t 0 p ≡ none
        go none q = q
        go (some (found j v)) q =
            let z : ◌≡◌ {A = ℕ} 11 0 = ap (λ (o : Outcome). o.answer) (sym (answered_some j v q) ∙ e) in
            absurd (omega arith)

    -- Refused by 11, it found that.
    refused_some : (j : ℕ) (v : ℤ) → tested (counted_rows n (some t) p) ≡ outcome_at 11 j v → out_from t 0 p ≡ some (found j v)
    refused_some j v e = go (out_from t 0 p) refl
      where
        go : (o : Option Found) → out_from t 0 p ≡ o → out_from t 0 p ≡ some (found j v)
        go none q =
            let z : ◌≡◌ {A = ℕ} 0 11 = ap (λ (o : Outcome). o.answer) (sym (answered_none q) ∙ e) in
            absurd (omega arith)
        go (some (found i w)) q =
            let same = sym (answered_some i w q) ∙ e in
            let place : i ≡ j = ap (λ (o : Outcome). o.detail) same in
            let value : w ≡ v = ap (λ (o : Outcome). o.value) same in
            rw (← place, ← value) q

  pub tested_by : TestedBy n t
  tested_by = record {
    another_count = λ p other. rw (ne_eqb (length p) n other);
    passes = λ p l. (
      (λ e. all_in p l (passed_none p l e)),
      (λ h. answered_none p l (rows_in t p (λ k a b. h k (omega (arith, l))))),
    );
    refuses = λ p l j v. (
      (λ e. (lowest_out t 0 p).some_out j v (refused_some p l j v e)),
      (λ low. answered_some p l j v (lowest_only t 0 p j v low)),
    );
  }
