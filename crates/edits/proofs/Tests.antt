-- What the rows of an edit come to, by what the tests behind them say, and what rows that pass tell of the edit.
use mathlib.Core.Path.{◌≡◌, refl, sym, ap, ◌∙◌}
use mathlib.Core.Bool.{Bool, true, false, cond, ◌||◌}
use mathlib.Core.List.{List, [], ◌∷◌, ◌++◌}
use mathlib.Core.Option.{Option, none, some}
use Prim.Native.Nat.{ℕ, ◌+◌, ◌*◌, ◌≤◌}
use native.Mathlib.Omega.{arith}
use lib.Dec.{ltb}
use lib.Seq.{sets}
use borrow.Author.Tests.{le-ltb, ltb-false}
use Rattle.std.specs.Prelude.{Ok, Err}
use Rattle.answers.specs.Table.{Row, row, row_at, row_found, Found, done, first}
use Rattle.answers.specs.declared.Outcome.{Outcome}
use Rattle.answers.specs.declared.Refusal.{Refusal}
use Rattle.answers.specs.Effect.{changed}
use Rattle.answers.specs.Refusals.{outcome_by}
use Rattle.answers.proofs.Refusals.{never_done, done_silent}
use Rattle.answers.proofs.Rows.{Refusals, first_append, first_passed, passed_over, stopped, row_silent, row_at_silent, row_found_silent}
use Rattle.answers.specs.promises.Decides.{Silent}
use Rattle.ranges.specs.Ranges.{out_from}
use Rattle.ranges.proofs.Runs.{one_in, further, out_further}
use Rattle.fields.specs.Fields.{fields, in_range, place_of}
use Rattle.patch.specs.Patch.{half_used, length_row, patch_rows}
use Rattle.fields.specs.code.Lookups.{bus_table}
use Rattle.fields.proofs.Buses.{bus_rows_hold}
use Rattle.edits.specs.Edits.{extended, stored_for, out_at, edit_rows, bus_rows, with_byte, with_bus, applying, applying_bus}
use Rattle.edits.specs.declared.change.Change.{Change}
use Rattle.edits.specs.code.Judged.{Judged}
use Rattle.edits.specs.code.Storing.{storing, storing_bus}
use Rattle.edits.specs.code.Value.{value_rows}

-- The rows of a remote edit whose parameter has a place are the tests of its value there.
pub rows_at : (n v k : ℕ) → place_of n ≡ some k → edit_rows n v ≡ value_rows k n v
unfolding edit_rows value_rows
rows_at n v k e = rw e

-- Where it has none, the first of them is 8.
pub rows_nowhere : (n v : ℕ) → place_of n ≡ none → edit_rows n v ≡ row 8 true ∷ row_found 11 none ∷ []
unfolding edit_rows
rows_nowhere n v e = rw e

-- An edit that is judged, behind which some rows may still refuse it.
module _ {N : ℕ} (rows : List Row) (edited : List ℕ → List ℕ) (more : List Row) (p : List ℕ) where
  -- Refused, it keeps every byte.
  pub judged_refused : (x : Refusal) → Judged {N = N} rows edited (Err x)
      → changed 0 (edited p) p (first (rows ++ more) (done 0 [] [])) ≡ record { result = outcome_by x; lent = p }
  judged_refused x j =
      rw (stopped rows more (done 0 [] []) (λ z. never_done x (ap (λ (o : Outcome). o.answer) j.told ∙ z)))
      (ap (λ (o : Outcome). record { result = o; lent = p }) (sym j.told))

  -- Passed, it is left to those rows.
  pub judged_passed : (c : Change N) → Refusals rows → Judged rows edited (Ok c)
      → changed 0 (edited p) p (first (rows ++ more) (done 0 [] [])) ≡ changed 0 (sets p c.at c.bytes) p (first more (done 0 [] []))
  judged_passed c a j = rw (passed_over rows more (done 0 [] []) (done_silent rows 0 a j.told), j.stores p) refl

-- In a patch that passes its tests storing an edit is applying it.
module _ (p : List ℕ) (s : Silent (patch_rows p)) where
  quiet : (rows : List Row) → first (rows ++ (length_row p ∷ [])) (done 0 [] []) ≡ first (rows ++ patch_rows p) (done 0 [] [])
  quiet rows =
      first_append rows (length_row p ∷ []) (done 0 [] []) ∙ ap (first rows) (first_passed (length_row p ∷ []) (done 0 [] []) (s.0, tt))
      ∙ sym (first_append rows (patch_rows p) (done 0 [] []) ∙ ap (first rows) (first_passed (patch_rows p) (done 0 [] []) s))

  pub stored_applied : (n v : ℕ) → storing n v p ≡ applying n v p
  unfolding storing applying
  stored_applied n v = ap (changed 0 (with_byte (place_of n) (stored_for n v) p) p) (quiet (edit_rows n v))

  pub bus_stored_applied : (b c a d : ℕ) → storing_bus b c a d p ≡ applying_bus b c a d p
  unfolding storing_bus applying_bus
  bus_stored_applied b c a d = ap (changed 0 (with_bus b c a d p) p) (quiet (bus_rows b c a d))

-- The three bytes of a bus, by the rows of bus 0: all buses have the same ranges.
bus_out : (b s a d : ℕ) → b ≤ 9 → out_from fields (104 + 3 * b) (s ∷ a ∷ d ∷ []) ≡ further (104 + 3 * b) (out_from bus_table 0 (s ∷ a ∷ d ∷ []))
bus_out b s a d h =
    let here : 104 + 3 * b + 0 ≡ 104 + 3 * b = omega arith in
    rw here at (out_further fields bus_table (104 + 3 * b) 0 (s ∷ a ∷ d ∷ []) (λ i l. bus_rows_hold b h i (omega arith)))

-- The rows of a matrix modulation edit whose bus and amount are allowed, by what they find in the bytes as they are stored.
pub bus_rows_at : (b s a d : ℕ) (o : Option Found) → b ≤ 9 → a ≤ 127 → out_from bus_table 0 (s ∷ extended a ∷ d ∷ []) ≡ o
    → bus_rows b s a d ≡ row 8 false ∷ row_found 11 (further (104 + 3 * b) o) ∷ row_at 12 (cond (half_used s d) (some b) none) ∷ []
unfolding bus_rows
bus_rows_at b s a d o h l e = rw (le-ltb 9 b h, le-ltb 127 a l, bus_out b s (extended a) d h, e) refl

-- The rows of an edit are refusals.
pub edit_refusals : (n v : ℕ) → Refusals (edit_rows n v)
unfolding edit_rows
edit_refusals n v = omega arith

pub bus_refusals : (b s a d : ℕ) → Refusals (bus_rows b s a d)
unfolding bus_rows
bus_refusals b s a d = omega arith

-- Where the tests of a value say nothing, it is at most 127.
pub value_small : (k n v : ℕ) → Silent (value_rows k n v) → v ≤ 127
unfolding value_rows
value_small k n v a = ltb-false 127 v (row_silent 8 (ltb 127 v) a.0)

-- And what is stored of it lies in the field's range.
pub value_inside : (k n v : ℕ) → Silent (value_rows k n v) → in_range k (stored_for n v) ≡ true
unfolding value_rows
value_inside k n v a = (one_in fields k (stored_for n v) [] (row_found_silent 11 (out_at (some k) (stored_for n v)) a.1.0)).0

-- Neither of two tests holds where one of them would be enough.
pub neither : (s t : Bool) → (s || t) ≡ false → (s ≡ false) × (t ≡ false)
neither true t e = let z : ◌≡◌ {A = ℕ} 0 1 = cc in absurd (omega arith)
neither false t e = (refl, e)

-- Rows of a matrix modulation edit that say nothing: its bus is one of ten.
pub bus_number : (b s a d : ℕ) → Silent (bus_rows b s a d) → b ≤ 9
unfolding bus_rows
bus_number b s a d q = ltb-false 9 b (neither (ltb 9 b) (ltb 127 a) (row_silent 8 (ltb 9 b || ltb 127 a) q.0)).0

-- Its amount has seven bits.
pub bus_amount : (b s a d : ℕ) → Silent (bus_rows b s a d) → a ≤ 127
unfolding bus_rows
bus_amount b s a d q = ltb-false 127 a (neither (ltb 9 b) (ltb 127 a) (row_silent 8 (ltb 9 b || ltb 127 a) q.0)).1

-- No byte of its bus is out of range.
pub bus_bytes : (b s a d : ℕ) → Silent (bus_rows b s a d) → out_from fields (104 + 3 * b) (s ∷ extended a ∷ d ∷ []) ≡ none
unfolding bus_rows
bus_bytes b s a d q = row_found_silent 11 (out_from fields (104 + 3 * b) (s ∷ extended a ∷ d ∷ [])) q.1.0

-- Its bus is not half used.
pub bus_whole : (b s a d : ℕ) → Silent (bus_rows b s a d) → half_used s d ≡ false
unfolding bus_rows
bus_whole b s a d q = go (half_used s d) (row_at_silent 12 (cond (half_used s d) (some b) none) q.1.1.0)
  where
    go : (t : Bool) → cond t (some b) none ≡ none → t ≡ false
    go true e = let z : ◌≡◌ {A = ℕ} 0 1 = cc in absurd (omega arith)
    go false e = refl
