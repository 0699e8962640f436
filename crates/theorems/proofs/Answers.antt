-- Demand 1. The walk stops at the first F0H, at the end of the message, or hands the message to its own rows; a buffer that is too short comes last.
-- The other routines are their rows: `changed` and `written` keep the lent bytes where a row refuses.
use mathlib.Core.Path.{◌≡◌, refl, sym, ap, ◌∙◌, subst}
use mathlib.Core.Bool.{Bool, true, false, not, ◌||◌}
use mathlib.Core.List.{List, [], ◌∷◌, ◌++◌, map}
use mathlib.Core.Logic.{◌⊎◌, inl, inr, ⊎_elim}
use mathlib.Core.Option.{Option, none, some}
use Prim.Native.Nat.{ℕ, zero, suc, ◌+◌, ◌*◌, ◌/◌, ◌%◌, ◌<◌, ◌≤◌}
use native.Mathlib.Decide.{dec_le}
use native.Mathlib.Omega.{arith}
use lib.Dec.{eqb, leb, ltb}
use lib.IntN.{ℤ, pos}
use lib.ListN.{length, take, drop, get_or, length-map, length-set, drop_of_length-le}
use lib.Seq.{drop_at, drop-append_seam, drop-drop}
use borrow.Author.Tests.{eqb-true, leb-true, leb-false, le-leb, le-ltb, lt-ltb}
use Rattle.answers.specs.declared.Outcome.{Outcome}
use Rattle.answers.specs.Table.{Row, row, says, Verdict, done, refused, first, outcome, outcome_of, four}
use Rattle.answers.specs.Lists.{All}
use Rattle.answers.specs.Effect.{Effect, tested, or_later}
use Rattle.answers.proofs.Lists.{all_append, all_take, all_weaken}
use Rattle.answers.proofs.Rows.{IsRefusal, Refusals, both_refusals, Heard, nothing, something, heard, first_append, first_passed}
use Rattle.answers.proofs.Rows.{passed_over, done_passed, given_first, first_given, row_equal, first_number, tested_passed, decides}
use Rattle.answers.proofs.Effects.{changed_decides, changed_keeps, written_decides, written_keeps}
use Rattle.answers.specs.promises.Decides.{Decides, Keeps, Silent}
use Rattle.streams.specs.Bytes.{body}
use Rattle.streams.specs.Stream.{Report, Reading, packed_in, read_into, read_report, message_at, first_from, walk, read, reports_from}
use Rattle.streams.proofs.Walk.{reread_from, reports_of}
use Rattle.streams.proofs.Lent.{reading_keeps}
use Rattle.nibbles.specs.Nibbles.{nibbles, pack, nibble_rows, packing, unpacking}
use Rattle.fields.specs.Parameters.{parameter_row, range_for, ranging}
use Rattle.patch.specs.Patch.{field_rows, patch_rows, held_rows, value_held, held_by, holding}
use Rattle.splits.specs.Splits.{split_rows}
use Rattle.patch.proofs.Tests.{field_refusals, patch_refusals}
use Rattle.names.specs.Names.{stored, shown, name_rows, naming, showing}
use Rattle.ranges.specs.Ranges.{counted_rows}
use Rattle.edits.specs.Edits.{edit_rows, bus_rows, with_byte, with_bus, stored_for, applying, applying_bus}
use Rattle.edits.proofs.Tests.{edit_refusals, bus_refusals}
use Rattle.fields.specs.Fields.{place_of}
use Rattle.messages.specs.Kinds.{kind_of}
use Rattle.messages.specs.Judge.{byte_at, lent_operand_rows, message_rows, record_of, judge}
use Rattle.messages.specs.code.Sizes.{lent_rows}
use Rattle.messages.specs.Layout.{message, given_rows}
use Rattle.messages.proofs.Numbers.{IsDone, made, record_done, message_refusals, given_refusals, packed_refusals, operand_refusals}
use Rattle.reading.specs.code.Told.{report_or, walked, walked_with, reads}
use Rattle.units.specs.code.Steps.{told}
use Rattle.units.proofs.Steps.{refused_stays}
use Rattle.reading.specs.code.Rooms.{width, most, made as made_in}
use Rattle.answers.specs.declared.Placed.{Placed}
use Rattle.writing.specs.Writing.{writing_bank, bank_bytes, first_bad, unless_bad}
use Rattle.pairs.specs.Pairs.{pair_rows}
use Rattle.pairs.proofs.Pair.{pair_refusals}
use Rattle.edit_lists.specs.Lists.{list_bytes}
use Rattle.edit_lists.specs.Plan.{plan as list_for, planning}
use Rattle.edit_lists.specs.Check.{checking}
use Rattle.edit_lists.proofs.Answers.{list_row, check_refusals}
use Rattle.theorems.specs.Answers.{from_start, found, complete, record_in, opcode_in, walk_rows, then_room}
use Rattle.theorems.specs.Answers.{Answered, patches_rows, bank_table, patch_at, PlaceOf, refused_patch, no_patch, AreThese, Demand1}

-- The walk finds nothing, and the first row says so; or it finds a message, and its verdict is that of the rows.
data Found (s : List ℕ) (place : ℕ) : Type 0 where
  nowhere : found s place ≡ [] → walk judge s place ≡ none → Found s place
  here : (r : Report) → walk judge s place ≡ some r → r.verdict ≡ first (walk_rows (found s place)) (record_in (found s place)) → Found s place

message_verdict : (f : ℕ) (t : List ℕ) → (message_at judge f t).verdict ≡ first (walk_rows (0xF0 ∷ t)) (record_in (0xF0 ∷ t))
unfolding message_at judge
message_verdict f t = by_end (drop (length (body t)) t) refl
  where
    by_test : (x : ℕ) (r : List ℕ) → drop (length (body t)) t ≡ x ∷ r → (c : Bool) → eqb x 0xF7 ≡ c
        → (message_at judge f t).verdict ≡ first (walk_rows (0xF0 ∷ t)) (record_in (0xF0 ∷ t))
    by_test x r e true q = rw (e, q)
    by_test x r e false q = rw (e, q)

    by_end : (w : List ℕ) → drop (length (body t)) t ≡ w → (message_at judge f t).verdict ≡ first (walk_rows (0xF0 ∷ t)) (record_in (0xF0 ∷ t))
    by_end [] e = rw e
    by_end (x ∷ r) e = by_test x r e (eqb x 0xF7) refl

-- The first F0H.
data Start (l : List ℕ) (p : ℕ) : Type 0 where
  none_there : from_start l ≡ [] → first_from judge p l ≡ none → Start l p
  starts : (f : ℕ) (t : List ℕ) → from_start l ≡ 0xF0 ∷ t → first_from judge p l ≡ some (message_at judge f t) → Start l p

start : (l : List ℕ) (p : ℕ) → Start l p
unfolding from_start first_from
start [] p = none_there refl refl
start (b ∷ l) p = by_test (eqb b 0xF0) refl (start l (suc p))
  where
    by_test : (t : Bool) → eqb b 0xF0 ≡ t → Start l (suc p) → Start (b ∷ l) p
    by_test true q i = starts p l (rw (q, eqb-true b 0xF0 q)) (rw q)
    by_test false q (none_there e₁ e₂) = none_there (rw q e₁) (rw q e₂)
    by_test false q (starts f t e₁ e₂) = starts f t (rw q e₁) (rw q e₂)

finds : (s : List ℕ) (place : ℕ) → Found s place
unfolding walk
finds s place = go (start (drop place s) place)
  where
    go : Start (drop place s) place → Found s place
    go (none_there e₁ e₂) = nowhere e₁ e₂
    go (starts f t e₁ e₂) = here (message_at judge f t) e₂ (rw e₁ (message_verdict f t))

module _ (l : List ℕ) where
  record_made : IsDone (record_in l)
  record_made = record_done (kind_of (byte_at (complete l) 3)) (complete l)

  pub walk_refusals : Refusals (walk_rows l)
  walk_refusals = (omega arith, (omega arith, (omega arith, message_refusals (complete l))))

-- Rows of refusals and 13 behind them.
pub room_refusals : (rows : List Row) (n : ℕ) (lent : List ℕ) → Refusals rows → Refusals (then_room rows n lent)
room_refusals rows n lent a = both_refusals rows (row 13 (ltb (length lent) n) ∷ []) a (omega arith)

-- An outcome that the rows come to with a record that is done.
decides_by : (rows : List Row) (v : Verdict) (o : Outcome) → IsDone v → Refusals rows → o ≡ outcome_of (first rows v) → Decides rows (outcome_of v).detail o
decides_by rows v o (made op b p q) a e = rw q (decides rows op b p o a (rw q at e))

-- Where there is no F0H, the first row says so.
nothing_found : (l : List ℕ) → l ≡ [] → first (walk_rows l) (record_in l) ≡ refused (outcome 1 0)
nothing_found l e = rw e

nothing_room : (l : List ℕ) (n : ℕ) (lent : List ℕ) (v : Verdict) → l ≡ [] → first (then_room (walk_rows l) n lent) v ≡ refused (outcome 1 0)
nothing_room l n lent v e = rw e

-- There, start and end are the input's length; and a record is read where the walk finds its message.
not_found : (s : List ℕ) (place : ℕ) → found s place ≡ [] → let r = walked s place in (r.start ≡ length s) × (r.end ≡ length s) × (r.noise ≡ 0)
unfolding walk
not_found s place n = go (start (drop place s) place)
  where
    go : Start (drop place s) place → let r = walked s place in (r.start ≡ length s) × (r.end ≡ length s) × (r.noise ≡ 0)
    go (none_there e₁ e₂) = rw e₂ (refl, refl, refl)
    go (starts f t e₁ e₂) = let z : ◌≡◌ {A = List ℕ} [] (0xF0 ∷ t) = sym n ∙ e₁ in let x : ◌≡◌ {A = ℕ} 0 1 = cc in absurd (omega arith)

read_there : (s : List ℕ) (place : ℕ) (lent : List ℕ)
    → let r = (reads s place lent).result.report in
    let w = walked s place in
    (r.start ≡ w.start) × (r.end ≡ w.end) × (r.noise ≡ w.noise)
unfolding read
read_there s place lent = by_walk (walk judge s place)
  where
    into : (f e : ℕ) (v : Verdict) (n : ℕ) → let r = (read_into f e v n lent).result in (r.start ≡ f) × (r.end ≡ e) × (r.noise ≡ n)
    into f e (refused o) n = (refl, refl, refl)
    into f e (done o b p) n = by_room (leb (length p) (length lent)) refl
      where
        by_room : (t : Bool) → leb (length p) (length lent) ≡ t
            → let r = (read_into f e (done o b p) n lent).result in (r.start ≡ f) × (r.end ≡ e) × (r.noise ≡ n)
        by_room true q = rw q (refl, refl, refl)
        by_room false q = rw q (refl, refl, refl)

    by_walk : (o : Option Report)
        → let r = (read_report judge (length s) o lent).result in
        let w = report_or (length s) o in
        (r.start ≡ w.start) × (r.end ≡ w.end) × (r.noise ≡ w.noise)
    by_walk none = (refl, refl, refl)
    by_walk (some r) = into r.start r.end r.verdict r.noise

walk_outcome : (s : List ℕ) (place : ℕ) → (walked s place).outcome ≡ outcome_of (first (walk_rows (found s place)) (record_in (found s place)))
walk_outcome s place = go (finds s place)
  where
    go : Found s place → (walked s place).outcome ≡ outcome_of (first (walk_rows (found s place)) (record_in (found s place)))
    go (nowhere e₁ e₂) = rw e₂ (sym (ap outcome_of (nothing_found (found s place) e₁)))
    go (here r e₁ e₂) = rw e₁ (ap outcome_of e₂)

-- What the rows come to, read into a lent buffer: they refuse, or the room does, or it is done.
reading_rows : (rows : List Row) (f e n o : ℕ) (b p lent : List ℕ)
    → (read_into f e (first rows (done o b p)) n lent).result.outcome ≡ outcome_of (first (then_room rows (length p) lent) (done o b p))
reading_rows [] f e n o b p lent = by_test (leb (length p) (length lent)) refl
  where
    by_test : (t : Bool) → leb (length p) (length lent) ≡ t
        → (read_into f e (done o b p) n lent).result.outcome ≡ outcome_of (first (row 13 (ltb (length lent) (length p)) ∷ []) (done o b p))
    by_test true q = rw (q, le-ltb (length lent) (length p) (leb-true (length p) (length lent) q))
    by_test false q = rw (q, lt-ltb (length lent) (length p) (leb-false (length p) (length lent) q))
reading_rows (r ∷ rows) f e n o b p lent = go (heard r) (reading_rows rows f e n o b p lent)
  where
    go : Heard r → (read_into f e (first rows (done o b p)) n lent).result.outcome ≡ outcome_of (first (then_room rows (length p) lent) (done o b p))
        → (read_into f e (first (r ∷ rows) (done o b p)) n lent).result.outcome ≡ outcome_of (first (then_room (r ∷ rows) (length p) lent) (done o b p))
    go (nothing q) i = rw q i
    go (something x q) i = rw q

reading_by : (rows : List Row) (v : Verdict) → IsDone v → (f e n : ℕ) (lent : List ℕ)
    → (read_into f e (first rows v) n lent).result.outcome ≡ outcome_of (first (then_room rows (length (packed_in v)) lent) v)
reading_by rows v (made o b p q) f e n lent = rw q (reading_rows rows f e n o b p lent)

-- The packed bytes of what the rows come to are those of the record, or none.
packed_from : (rows : List Row) (v : Verdict) → (packed_in (first rows v) ≡ packed_in v) ⊎ (packed_in (first rows v) ≡ [])
packed_from [] v = inl refl
packed_from (r ∷ rows) v = go (heard r) (packed_from rows v)
  where
    go : Heard r → (packed_in (first rows v) ≡ packed_in v) ⊎ (packed_in (first rows v) ≡ [])
        → (packed_in (first (r ∷ rows) v) ≡ packed_in v) ⊎ (packed_in (first (r ∷ rows) v) ≡ [])
    go (nothing q) i = rw q i
    go (something x q) i = inr (rw q)

keeps_by : (a m n : ℕ) (old after : List ℕ) → Keeps a m old after → (m ≡ n) ⊎ (m ≡ 0) → Keeps a n old after
keeps_by a m n old after k h = record {
  refused = k.refused;
  behind = λ z. ⊎_elim (λ (e : m ≡ n). rw e at (k.behind z)) (λ (e : m ≡ 0). ap (drop n) (rw e at (k.behind z))) h;
}

module _ (s : List ℕ) (place : ℕ) (lent : List ℕ) where
  abbrev l : List ℕ
  l = found s place

  abbrev size : ℕ
  size = length (packed_in (record_in l))

  abbrev outcome_read : Outcome
  outcome_read = (reads s place lent).result.report.outcome

  read_told : Found s place → outcome_read ≡ outcome_of (first (then_room (walk_rows l) size lent) (record_in l))
  unfolding read
  read_told (nowhere e₁ e₂) =
      ap (λ (o : Option Report). (read_report judge (length s) o lent).result.outcome) e₂ ∙ sym (ap outcome_of (nothing_room l size lent (record_in l) e₁))
  read_told (here r e₁ e₂) =
      ap (λ (o : Option Report). (read_report judge (length s) o lent).result.outcome) e₁
      ∙ ap (λ (v : Verdict). (read_into r.start r.end v r.noise lent).result.outcome) e₂
      ∙ reading_by (walk_rows l) (record_in l) (record_made l) r.start r.end r.noise lent

  abbrev Kept : Effect Reading → Type 0
  Kept x = Keeps x.result.outcome.answer size lent x.lent

  read_kept : Found s place → Kept (read judge s place lent)
  unfolding read
  read_kept (nowhere e₁ e₂) =
      subst (λ (o : Option Report). Kept (read_report judge (length s) o lent)) (sym e₂) (record { refused = λ x. refl; behind = λ z. refl })
  read_kept (here r e₁ e₂) =
      let v = first (walk_rows l) (record_in l) in
      let e = read_into r.start r.end v r.noise lent in
      let some_packed : (length (packed_in v) ≡ size) ⊎ (length (packed_in v) ≡ 0) =
      ⊎_elim (λ (q : packed_in v ≡ packed_in (record_in l)). inl (ap length q)) (λ (q : packed_in v ≡ []). inr (ap length q))
      (packed_from (walk_rows l) (record_in l)) in
      let kept = keeps_by e.result.outcome.answer (length (packed_in v)) size lent e.lent (reading_keeps r.start r.end v r.noise lent) some_packed in
      subst (λ (o : Option Report). Kept (read_report judge (length s) o lent)) (sym e₁)
      (subst (λ (w : Verdict). Kept (read_into r.start r.end w r.noise lent)) (sym e₂) kept)

  read_answered : Answered (then_room (walk_rows l) size lent) (opcode_in l) size lent outcome_read (reads s place lent).lent
  read_answered = record {
    decides =
        let a = room_refusals (walk_rows l) size lent (walk_refusals l) in
        decides_by (then_room (walk_rows l) size lent) (record_in l) _ (record_made l) a (read_told (finds s place));
    keeps = read_kept (finds s place);
  }

-- With another answer than 0 no bytes come.
abbrev NoBytes : Effect Reading → Type 0
NoBytes e = (e.result.outcome.answer ≡ 0 → ⊥) → four e.result.bytes ≡ four []

read_bare : (f e : ℕ) (v : Verdict) (n : ℕ) (lent : List ℕ) → NoBytes (read_into f e v n lent)
read_bare f e (done o b p) n lent = by_room (leb (length p) (length lent)) refl
  where
    by_room : (t : Bool) → leb (length p) (length lent) ≡ t → NoBytes (read_into f e (done o b p) n lent)
    by_room true q = rw q (λ x. absurd (x refl))
    by_room false q = rw q (λ x. refl)
read_bare f e (refused r) n lent = λ x. refl

read_no_bytes : (s : List ℕ) (place : ℕ) (lent : List ℕ) → NoBytes (read judge s place lent)
unfolding read
read_no_bytes s place lent = by_walk (walk judge s place)
  where
    by_walk : (o : Option Report) → NoBytes (read_report judge (length s) o lent)
    by_walk none = λ n. refl
    by_walk (some r) = read_bare r.start r.end r.verdict r.noise lent

-- Lent bytes of which no more may change than there are.
all_behind : (new old : List ℕ) → length new ≡ length old → drop (length old) new ≡ drop (length old) old
all_behind new old e = drop_of_length-le new {i = length old} (omega arith) ∙ sym (drop_of_length-le old {i = length old} (omega arith))

with_byte_length : (o : Option ℕ) (b : ℕ) (p : List ℕ) → length (with_byte o b p) ≡ length p
with_byte_length none b p = refl
with_byte_length (some k) b p = length-set p k b

with_bus_length : (b s a d : ℕ) (p : List ℕ) → length (with_bus b s a d p) ≡ length p
unfolding with_bus
with_bus_length b s a d p = simp length-set

edit_answered : (n v : ℕ) (p : List ℕ) → let e = applying n v p in Answered (edit_rows n v ++ patch_rows p) 0 (length p) p e.result e.lent
unfolding applying
edit_answered n v p =
    let rows = edit_rows n v ++ patch_rows p in
    let new = with_byte (place_of n) (stored_for n v) p in
    let a = both_refusals (edit_rows n v) (patch_rows p) (edit_refusals n v) (patch_refusals p) in
    record {
      decides = changed_decides 0 new p rows a;
      keeps = changed_keeps 0 new p (length p) rows (λ s. all_behind new p (with_byte_length (place_of n) (stored_for n v) p)) a;
    }

bus_answered : (b s a d : ℕ) (p : List ℕ) → let e = applying_bus b s a d p in Answered (bus_rows b s a d ++ patch_rows p) 0 (length p) p e.result e.lent
unfolding applying_bus
bus_answered b s a d p =
    let rows = bus_rows b s a d ++ patch_rows p in
    let new = with_bus b s a d p in
    let r = both_refusals (bus_rows b s a d) (patch_rows p) (bus_refusals b s a d) (patch_refusals p) in
    record {
      decides = changed_decides 0 new p rows r;
      keeps = changed_keeps 0 new p (length p) rows (λ s'. all_behind new p (with_bus_length b s a d p)) r;
    }

name_answered : (p text : List ℕ) → let e = naming p text in Answered (name_rows p text) 0 8 p e.result e.lent
unfolding naming
name_answered p text =
    let new = map stored text ++ drop 8 p in
    let a : Refusals (name_rows p text) = (omega arith, (omega arith, (omega arith, field_refusals p))) in
    let eight : Silent (name_rows p text) → drop 8 new ≡ drop 8 p =
    λ s. drop_at (map stored text) (drop 8 p) 8 (length-map text stored ∙ row_equal 7 (length text) 8 s.1.0) in
    record { decides = changed_decides 0 new p (name_rows p text) a; keeps = changed_keeps 0 new p 8 (name_rows p text) eight a }

-- A bank with no bad patch: the patches' rows say nothing. With one: they refuse by it.
bad_none : (n k : ℕ) (ps : List ℕ) → first_bad n k ps ≡ none → Silent (patches_rows n ps)
unfolding first_bad
bad_none zero k ps e = tt
bad_none (suc n) k ps e = go (first (field_rows (take 134 ps)) (done 0 [] [])) refl e (bad_none n (suc k) (drop 134 ps))
  where
    go : (v : Verdict) → first (field_rows (take 134 ps)) (done 0 [] []) ≡ v → or_later k v (first_bad n (suc k) (drop 134 ps)) ≡ none
        → (first_bad n (suc k) (drop 134 ps) ≡ none → Silent (patches_rows n (drop 134 ps))) → Silent (patches_rows (suc n) ps)
    go (done o b p) q e i =
        all_append (λ (r : Row). says r ≡ none) (field_rows (take 134 ps)) (patches_rows n (drop 134 ps))
        (done_passed (field_rows (take 134 ps)) (done 0 [] []) o b p q).0 (i e)
    go (refused r) q e i = let z : ◌≡◌ {A = ℕ} 0 1 = cc in absurd (omega arith)

bad_some : (n k : ℕ) (ps : List ℕ) (b : Placed) (v : Verdict) → first_bad n k ps ≡ some b → first (patches_rows n ps) v ≡ refused b.outcome
unfolding first_bad
bad_some zero k ps b v e = let z : ◌≡◌ {A = ℕ} 0 1 = cc in absurd (omega arith)
bad_some (suc n) k ps b v e =
    first_append (field_rows (take 134 ps)) (patches_rows n (drop 134 ps)) v
    ∙ go (first (field_rows (take 134 ps)) (done 0 [] [])) refl e (bad_some n (suc k) (drop 134 ps) b v)
  where
    go : (w : Verdict) → first (field_rows (take 134 ps)) (done 0 [] []) ≡ w → or_later k w (first_bad n (suc k) (drop 134 ps)) ≡ some b
        → (first_bad n (suc k) (drop 134 ps) ≡ some b → first (patches_rows n (drop 134 ps)) v ≡ refused b.outcome)
        → first (field_rows (take 134 ps)) (first (patches_rows n (drop 134 ps)) v) ≡ refused b.outcome
    go (done o c p) q e i =
        first_passed (field_rows (take 134 ps)) (first (patches_rows n (drop 134 ps)) v) (done_passed (field_rows (take 134 ps)) (done 0 [] []) o c p q).0 ∙ i e
    go (refused r) q e i =
        let same : record { outcome = r; place = k } ≡ b = cc in
        given_first (field_rows (take 134 ps)) (first (patches_rows n (drop 134 ps)) v) r (first_given (field_rows (take 134 ps)) 0 [] [] r q)
        ∙ ap (λ (x : Placed). refused x.outcome) same

bank_refusals : (n : ℕ) (ps : List ℕ) → Refusals (patches_rows n ps)
bank_refusals zero ps = tt
bank_refusals (suc n) ps = both_refusals (field_rows (take 134 ps)) (patches_rows n (drop 134 ps)) (field_refusals (take 134 ps)) (bank_refusals n (drop 134 ps))

pub bank_table_refusals : (ps out : List ℕ) → Refusals (bank_table ps out)
bank_table_refusals ps out =
    let patches = patches_rows (length ps / 134) ps in
    (omega arith, room_refusals patches (length (bank_bytes ps)) out (bank_refusals (length ps / 134) ps))

module _ (ps out : List ℕ) where
  abbrev wrong_length : Bool
  wrong_length = not (eqb (length ps % 134) 0) || ltb (100 * 134) (length ps)

  abbrev bytes : List ℕ
  bytes = bank_bytes ps

  abbrev room : List Row
  room = row 13 (ltb (length out) (length bytes)) ∷ []

  -- What the bank comes to is what its table does.
  record Told : Type 0 where
    outcome_told : (writing_bank ps out).result.outcome ≡ outcome_of (first (bank_table ps out) (done (length bytes) [] []))
    kept : Keeps (writing_bank ps out).result.outcome.answer (length bytes) out (writing_bank ps out).lent

  by_room : wrong_length ≡ false → first_bad (length ps / 134) 0 ps ≡ none → (t : Bool) → ltb (length out) (length bytes) ≡ t → Told
  unfolding writing_bank
  by_room q e true u =
      let over = passed_over (patches_rows (length ps / 134) ps) room (done (length bytes) [] []) (bad_none (length ps / 134) 0 ps e) in
      record { outcome_told = rw (q, e, over, u); kept = rw (q, e, u) (record { refused = λ n. refl; behind = λ z. absurd (omega arith) }) }
  by_room q e false u =
      let over = passed_over (patches_rows (length ps / 134) ps) room (done (length bytes) [] []) (bad_none (length ps / 134) 0 ps e) in
      record {
        outcome_told = rw (q, e, over, u);
        kept = rw (q, e, u) (record { refused = λ n. absurd (n refl); behind = λ z. drop-append_seam bytes (drop (length bytes) out) });
      }

  by_bad : wrong_length ≡ false → (o : Option Placed) → first_bad (length ps / 134) 0 ps ≡ o → Told
  unfolding writing_bank
  by_bad q none e = by_room q e (ltb (length out) (length bytes)) refl
  by_bad q (some b) e =
      let stops = first_append (patches_rows (length ps / 134) ps) room (done (length bytes) [] [])
      ∙ bad_some (length ps / 134) 0 ps b (first room (done (length bytes) [] [])) e in
      record { outcome_told = rw (q, e, stops); kept = rw (q, e) (record { refused = λ n. refl; behind = λ z. refl }) }

  by_length : (t : Bool) → wrong_length ≡ t → Told
  unfolding writing_bank
  by_length true q = record { outcome_told = rw q; kept = rw q (record { refused = λ n. refl; behind = λ z. absurd (omega arith) }) }
  by_length false q = by_bad q (first_bad (length ps / 134) 0 ps) refl

  bank_answered : let e = writing_bank ps out in Answered (bank_table ps out) (length bytes) (length bytes) out e.result.outcome e.lent
  bank_answered =
      let told = by_length wrong_length refl in
      let a = bank_table_refusals ps out in
      record { decides = decides (bank_table ps out) (length bytes) [] [] _ a told.outcome_told; keeps = told.kept }

-- The lowest bad patch of a bank, among those from number k on, where those before it pass.
module _ (ps : List ℕ) where
  abbrev Passes : ℕ → Type 0
  Passes k = tested (field_rows (patch_at k ps)) ≡ outcome 0 0

  one_more : (k : ℕ) → ((j : ℕ) → j < k → Passes j) → Passes k → (j : ℕ) → j < suc k → Passes j
  one_more k h p j l = by_place (dec_le (suc j) k)
    where
      by_place : Dec (suc j ≤ k) → Passes j
      by_place (yes m) = h j m
      by_place (no m) = let e : j ≡ k = omega (arith, m) in rw e p

  bad_place : (n k : ℕ) (b : Placed) → first_bad n k (drop (k * 134) ps) ≡ some b → ((j : ℕ) → j < k → Passes j) → PlaceOf ps b
  unfolding first_bad
  bad_place zero k b e h = let z : ◌≡◌ {A = ℕ} 0 1 = cc in absurd (omega arith)
  bad_place (suc n) k b e h = go (first (field_rows (patch_at k ps)) (done 0 [] [])) refl e (bad_place n (suc k) b)
    where
      next : drop 134 (drop (k * 134) ps) ≡ drop (suc k * 134) ps
      next = let m : k * 134 + 134 ≡ suc k * 134 = omega arith in drop-drop 134 (k * 134) ps ∙ rw m

      go : (v : Verdict) → first (field_rows (patch_at k ps)) (done 0 [] []) ≡ v → or_later k v (first_bad n (suc k) (drop 134 (drop (k * 134) ps))) ≡ some b
          → (first_bad n (suc k) (drop (suc k * 134) ps) ≡ some b → ((j : ℕ) → j < suc k → Passes j) → PlaceOf ps b) → PlaceOf ps b
      go (done o c p) q e i =
          i (rw next at e) (one_more k h (tested_passed (field_rows (patch_at k ps)) (done_passed (field_rows (patch_at k ps)) (done 0 [] []) o c p q).0))
      go (refused r) q e i =
          let same : record { outcome = r; place = k } ≡ b = cc in
          let rows = field_rows (patch_at k ps) in
          let is_refused = first_number IsRefusal rows 0 [] [] r (field_refusals (patch_at k ps)) q in
          subst (PlaceOf ps) same (refused_patch (sym (ap outcome_of q)) (λ z. omega arith) h)

  by_bank : (out : List ℕ) (o : Option Placed) → first_bad (length ps / 134) 0 ps ≡ o → PlaceOf ps (unless_bad o (bank_bytes ps) out).result
  by_bank out (some b) e = bad_place (length ps / 134) 0 b e (λ j l. absurd (omega arith))
  by_bank out none e = by_room (ltb (length out) (length (bank_bytes ps))) refl
    where
      by_room : (t : Bool) → ltb (length out) (length (bank_bytes ps)) ≡ t → PlaceOf ps (unless_bad none (bank_bytes ps) out).result
      by_room true q = rw q (no_patch refl (inr (inr refl)))
      by_room false q = rw q (no_patch refl (inl refl))

  bank_place : (out : List ℕ) → PlaceOf ps (writing_bank ps out).result
  unfolding writing_bank
  bank_place out = by_length (not (eqb (length ps % 134) 0) || ltb (100 * 134) (length ps)) refl
    where
      by_length : (t : Bool) → (not (eqb (length ps % 134) 0) || ltb (100 * 134) (length ps)) ≡ t → PlaceOf ps (writing_bank ps out).result
      by_length true q = rw q (no_patch refl (inr (inl refl)))
      by_length false q = rw q (by_bank out (first_bad (length ps / 134) 0 ps) refl)

-- Demand 1, whole.
-- What is told of a parameter is 8, or done.
range_answered : (n : ℕ) → Decides (parameter_row n ∷ []) 0 (ranging n).outcome
unfolding ranging
range_answered n = decides (parameter_row n ∷ []) 0 [] [] _ (omega arith) (by_place (place_of n) refl)
  where
    by_place : (o : Option ℕ) → place_of n ≡ o → (ranging n).outcome ≡ outcome_of (first (parameter_row n ∷ []) (done 0 [] []))
    by_place none q = rw q
    by_place (some k) q = rw q

no_range : (n : ℕ) → let r = ranging n in (r.outcome.answer ≡ 0 → ⊥) → (r.least ≡ pos 0) × (r.greatest ≡ pos 0)
unfolding ranging
no_range n = by_place (place_of n)
  where
    by_place : (o : Option ℕ) → ((range_for o).outcome.answer ≡ 0 → ⊥) → ((range_for o).least ≡ pos 0) × ((range_for o).greatest ≡ pos 0)
    by_place none n = (refl, refl)
    by_place (some k) n = absurd (n refl)

none_held : (v : ℤ) (w : Verdict) → ((held_by v w).outcome.answer ≡ 0 → ⊥) → (held_by v w).value ≡ pos 0
none_held v (done o b p) n = absurd (n refl)
none_held v (refused o) n = refl

held_nothing : (n : ℕ) (p : List ℕ) → let h = holding n p in (h.outcome.answer ≡ 0 → ⊥) → h.value ≡ pos 0
unfolding holding
held_nothing n p = none_held (value_held (place_of n) p) (first (held_rows n p) (done 0 [] []))

held_answered : (n : ℕ) (p : List ℕ) → Decides (held_rows n p) 0 (holding n p).outcome
unfolding holding
held_answered n p = decides (held_rows n p) 0 [] [] _ (omega arith, patch_refusals p) (by_rows (held_rows n p))
  where
    held : ℤ
    held = value_held (place_of n) p

    by_rows : (rows : List Row) → (held_by held (first rows (done 0 [] []))).outcome ≡ outcome_of (first rows (done 0 [] []))
    by_rows [] = refl
    by_rows (r ∷ rows) = go (heard r) (by_rows rows)
      where
        go : Heard r → (held_by held (first rows (done 0 [] []))).outcome ≡ outcome_of (first rows (done 0 [] []))
            → (held_by held (first (r ∷ rows) (done 0 [] []))).outcome ≡ outcome_of (first (r ∷ rows) (done 0 [] []))
        go (nothing q) i = rw q i
        go (something o q) i = rw q

-- What holds of every report from a place on holds of those that one call makes.
pub made_all : (P : Report → Type 0) (s : List ℕ) (place : ℕ) (room : List ℕ) → All P (reports_from judge (length s) s place) → All P (made_in s place room)
unfolding made_in
made_all P s place room a =
    let from = reports_from judge (length s) s place in
    rw (← ((reports_of judge s).by_states place)) (all_take P most (take (length room / width) from) (all_take P (length room / width) from a))

-- The four bytes of an answer, place by place.
these : (b : List ℕ) → AreThese b (four b)
these b = record { count = refl; each = each }
  where
    each : (i : ℕ) → i < 4 → get_or (four b) i 0 ≡ get_or b i 0
    each zero h = refl
    each (suc zero) h = refl
    each (suc (suc zero)) h = refl
    each (suc (suc (suc zero))) h = refl
    each (suc (suc (suc (suc i)))) h = absurd (omega arith)

walk_given : (s : List ℕ) (place : ℕ) (r : Report) (o : ℕ) (b p : List ℕ) → walk judge s place ≡ some r → r.verdict ≡ done o b p
    → AreThese b (walked_with s place).bytes
walk_given s place r o b p e v = rw (e, v) (these b)

read_given : (s : List ℕ) (place : ℕ) (lent : List ℕ) (r : Report) (o : ℕ) (b p : List ℕ) → walk judge s place ≡ some r
    → r.verdict ≡ done o b p → length p ≤ length lent → AreThese b (reads s place lent).result.bytes
unfolding read
read_given s place lent r o b p e v h = rw (e, v, le-leb (length p) (length lent) h) (these b)

pub demand_1 : Demand1
unfolding showing packing unpacking judge checking planning
demand_1 = record {
  walk = λ s place.
      let l = found s place in
      decides_by (walk_rows l) (record_in l) _ (record_made l) (walk_refusals l) (walk_outcome s place);
  reports_each = λ s place.
      all_weaken (λ r. walk judge s r.start ≡ some r)
      (λ r. let l = found s r.start in Decides (walk_rows l) (opcode_in l) (outcome_of r.verdict))
      (λ r e. let l = found s r.start in
      decides_by (walk_rows l) (record_in l) _ (record_made l) (walk_refusals l)
      (sym (ap (λ (o : Option Report). (report_or (length s) o).outcome) e) ∙ walk_outcome s r.start))
      (reports_from judge (length s) s place) (reread_from judge s (length s) place);
  nowhere = not_found;
  read = read_answered;
  read_where = read_there;
  read_bytes = read_no_bytes;
  test = λ p. decides (patch_rows p) 0 [] [] _ (patch_refusals p) refl;
  test_split = λ p. decides (split_rows p) 0 [] [] _ (omega arith) refl;
  read_given = read_given;
  walk_given = walk_given;
  step = λ u s place. refl;
  step_refused = λ u s place h. ap (told (walked s place)) (refused_stays u s place h);
  range = range_answered;
  held = held_answered;
  range_refused = no_range;
  held_refused = held_nothing;
  test_edit = λ n v. decides (edit_rows n v) 0 [] [] _ (edit_refusals n v) refl;
  test_bus_edit = λ b s a d. decides (bus_rows b s a d) 0 [] [] _ (bus_refusals b s a d) refl;
  test_packed = λ q p. decides (lent_rows q p) 0 [] [] _ (omega arith, packed_refusals q p) refl;
  test_operands = λ o b. decides (lent_operand_rows o b) 0 [] [] _ (omega arith, operand_refusals o b) refl;
  test_table = λ n t p. decides (counted_rows n t p) 0 [] [] _ (omega arith) refl;
  judges = λ m. let k = kind_of (byte_at m 3) in decides_by (message_rows m) (record_of k m) _ (record_done k m) (message_refusals m) refl;
  set_name = name_answered;
  show_name = λ p out.
      let text = map shown (take 8 p) in
      record { decides = written_decides (patch_rows p) text out (patch_refusals p); keeps = written_keeps (patch_rows p) text out (patch_refusals p) };
  edit = edit_answered;
  bus_edit_tells = bus_answered;
  write = λ k b p out.
      let m = message k b p in
      record { decides = written_decides (given_rows k b p) m out (given_refusals k b p); keeps = written_keeps (given_rows k b p) m out (given_refusals k b p) };
  bank = bank_answered;
  bank_place = bank_place;
  test_pair = λ a b. decides (pair_rows a b) 0 [] [] _ (pair_refusals a b) refl;
  check_plan = λ a b list. decides (pair_rows a b ++ list_row a b list) 0 [] [] _ (check_refusals a b list) refl;
  plan = λ a b out.
      let list = list_bytes (list_for a b) in
      record { decides = written_decides (pair_rows a b) list out (pair_refusals a b); keeps = written_keeps (pair_rows a b) list out (pair_refusals a b) };
  packs = λ sent out.
      let a : Refusals (nibble_rows sent) = (omega arith, omega arith) in
      record { decides = written_decides (nibble_rows sent) (pack sent) out a; keeps = written_keeps (nibble_rows sent) (pack sent) out a };
  unpacks = λ bytes out. record { decides = written_decides [] (nibbles bytes) out tt; keeps = written_keeps [] (nibbles bytes) out tt };
}
