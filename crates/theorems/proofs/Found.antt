-- What was found is told: an outcome that rows decide is said by one of them, and each row that says 11 says the value that stands at its place.
use mathlib.Core.Path.{◌≡◌, ap, refl, sym, ◌∙◌, subst}
use mathlib.Core.Bool.{Bool, true, false, not}
use mathlib.Core.List.{List, [], ◌∷◌, ◌++◌}
use mathlib.Core.Logic.{⊎_elim}
use mathlib.Core.Option.{Option, none, some}
use Prim.Native.Nat.{ℕ, zero, suc, ◌-◌, ◌/◌}
use native.Mathlib.Omega.{arith}
use lib.Dec.{T, eqb}
use lib.IntN.{ℤ, pos}
use lib.ListN.{length, get_or, take, drop}
use borrow.Author.Tests.{eqb-true, eqb-false}
use Rattle.answers.specs.declared.Outcome.{Outcome}
use Rattle.answers.specs.Lists.{All}
use Rattle.answers.specs.Table.{Row, row, row_at, row_found, Found, found, says, done, first, outcome, outcome_at, outcome_of}
use Rattle.answers.specs.Effect.{tested}
use Rattle.answers.specs.promises.Decides.{Decides}
use Rattle.answers.proofs.Lists.{all_append, all_at, all_weaken}
use Rattle.answers.proofs.Rows.{Refusals, both_refusals, passed_over, answered_silent, stopped, is_first, decides}
use Rattle.streams.specs.Stream.{Report, packed_in, reports_from}
use Rattle.reading.specs.code.Rooms.{made}
use Rattle.nibbles.specs.Nibbles.{pack}
use Rattle.ranges.specs.Ranges.{Table, out_from, out_by, value_in}
use Rattle.ranges.proofs.Runs.{lowest_out}
use Rattle.fields.specs.Fields.{size, fields, value_at, place_of}
use Rattle.patch.specs.Patch.{source_at, field_rows, patch_rows}
use Rattle.patch.proofs.Tests.{field_refusals, patch_refusals}
use Rattle.splits.specs.Splits.{split_fields}
use Rattle.edits.specs.Edits.{extended, stored_for, out_at, edit_rows, bus_rows}
use Rattle.edits.proofs.Tests.{edit_refusals, bus_refusals}
use Rattle.messages.specs.declared.kinds.Kind.{Kind}
use Rattle.messages.specs.declared.kinds.Kind.TheVariants.{Dump as of_dump, Short as of_short, Unknown as unknown}
use Rattle.messages.specs.declared.kinds.Operands.{Operands}
use Rattle.messages.specs.declared.kinds.Operands.TheVariants.{Edit as an_edit, BusEdit as a_bus_edit, Operation as an_operation}
use Rattle.messages.specs.declared.kinds.Packed.{Packed}
use Rattle.messages.specs.Kinds.{shape_of, size_of, count_of, kind_of}
use Rattle.messages.specs.Judge.{byte_at, bytes_from, data_of, packed_of, data_rows, packed_rows, operand_rows, kind_rows, record_of, message_rows, judge}
use Rattle.messages.specs.Layout.{given_rows}
use Rattle.judging.specs.code.Judged.{bytes_in}
use Rattle.answers.specs.declared.Placed.{Placed}
use Rattle.writing.specs.Writing.{writing_bank}
use Rattle.pairs.specs.Pairs.{pair_rows}
use Rattle.pairs.proofs.Pair.{name_rows}
use Rattle.edit_lists.proofs.Answers.{list_row}
use Rattle.theorems.specs.Answers.{found as found_in, complete, walk_rows, then_room, patches_rows, bank_table, patch_at, PlaceOf, refused_patch, no_patch}
use Rattle.theorems.specs.Found.{Tells, in_patch, FirstThenSecond, standing, storing, bringing, brought_by, SaysWhatWasFound}
use Rattle.theorems.proofs.Answers.{demand_1, made_all}

-- What a row says is so.
record Says (P : Outcome → Type 0) (r : Row) : Type 0 where
  so : (o : Outcome) → says r ≡ some o → P o

-- What is decided is so, where done is and what every row says.
decided_so : (P : Outcome → Type 0) (rows : List Row) {d : ℕ} {o : Outcome} → P (outcome 0 d) → All (Says P) rows → Decides rows d o → P o
decided_so P rows {d} {o} z a c = by_answer (eqb o.answer 0) refl
  where
    by_answer : (t : Bool) → eqb o.answer 0 ≡ t → P o
    by_answer true q = subst P (sym (c.with_detail (eqb-true o.answer 0 q))) z
    by_answer false q =
        let f = (c.refuses o (eqb-false o.answer 0 q)).0 refl in
        (all_at (Says P) f.before f.here f.after (subst (All (Says P)) f.split a)).so o f.said

-- A row says only what tells.
abbrev RowTells : (ℕ → ℤ) → Row → Type 0
RowTells value r = Says (Tells value) r

-- What is decided tells, where every row does.
decided : (value : ℕ → ℤ) (rows : List Row) {d : ℕ} {o : Outcome} → All (RowTells value) rows → Decides rows d o → Tells value o
decided value rows a c = decided_so (Tells value) rows (record { out = λ z. absurd (omega arith); other = λ n. refl }) a c

-- A row of another number than 11, with no value.
module _ (value : ℕ → ℤ) (n : ℕ) (t : T (not (eqb n 11))) where
  none_found : (d : ℕ) → Tells value (outcome n d)
  none_found d = record { out = λ z. absurd (subst (λ (m : ℕ). T (not (eqb m 11))) z t); other = λ m. refl }

  plain : (h : Bool) → RowTells value (row n h)
  plain true = record { so = λ o e. let same : outcome n 0 ≡ o = cc in rw (← same) (none_found 0) }
  plain false = record { so = λ o e. let z : ◌≡◌ {A = ℕ} 0 1 = cc in absurd (omega arith) }

  plain_at : (m : Option ℕ) → RowTells value (row_at n m)
  plain_at (some d) = record { so = λ o e. let same : outcome n d ≡ o = cc in rw (← same) (none_found d) }
  plain_at none = record { so = λ o e. let z : ◌≡◌ {A = ℕ} 0 1 = cc in absurd (omega arith) }

-- 11 with what was found.
eleven : (value : ℕ → ℤ) (m : Option Found) → ((k : ℕ) (v : ℤ) → m ≡ some (found k v) → v ≡ value k) → RowTells value (row_found 11 m)
eleven value (some (found k v)) h =
    record { so = λ o e. let same : outcome_at 11 k v ≡ o = cc in rw (← same) (record { out = λ z. h k v refl; other = λ n. absurd (n refl) }) }
eleven value none h = record { so = λ o e. let z : ◌≡◌ {A = ℕ} 0 1 = cc in absurd (omega arith) }

by_table : (t : Table) (p : List ℕ) → RowTells (λ k. value_in t k (get_or p k 0)) (row_found 11 (out_from t 0 p))
by_table t p =
    eleven (λ k. value_in t k (get_or p k 0)) (out_from t 0 p)
    (λ k v e. let here : k - 0 ≡ k = omega arith in rw here at ((lowest_out t 0 p).some_out k v e).value)

fields_tell : (p : List ℕ) → All (RowTells (in_patch p)) (field_rows p)
fields_tell p = (by_table fields p, (plain_at (in_patch p) 12 tt _, tt))

patch_tells : (p : List ℕ) → All (RowTells (in_patch p)) (patch_rows p)
patch_tells p = (plain (in_patch p) 7 tt _, fields_tell p)

by_shape : (t : Option Table) (p : List ℕ) → RowTells (standing t p) (row_found 11 (out_by t p))
by_shape none p = eleven (standing none p) none (λ k v e. let z : ◌≡◌ {A = ℕ} 0 1 = cc in absurd (omega arith))
by_shape (some t) p = by_table t p

packed_tell : (q : Packed) (p : List ℕ) → All (RowTells (standing (shape_of q).table p)) (packed_rows q p)
packed_tell q p = (by_shape (shape_of q).table p, (plain_at (standing (shape_of q).table p) 12 tt _, tt))

-- One byte at its place.
stored_tells : (o : Option ℕ) (b : ℕ) → RowTells (λ k. value_at k b) (row_found 11 (out_at o b))
stored_tells none b = eleven (λ k. value_at k b) none (λ k v e. let z : ◌≡◌ {A = ℕ} 0 1 = cc in absurd (omega arith))
stored_tells (some k) b =
    eleven (λ k. value_at k b) (out_from fields k (b ∷ []))
    (λ j v e.
    let l = (lowest_out fields k (b ∷ [])).some_out j v e in
    let first : j - k ≡ 0 = omega (arith, l.from, l.below) in
    rw first at l.value)

operands_tell : (o : Operands) (b : List ℕ) → All (RowTells (storing o b)) (operand_rows o b)
unfolding edit_rows bus_rows
operands_tell an_edit b =
    (plain (storing an_edit b) 8 tt _, (stored_tells (place_of (get_or b 0 0)) (stored_for (get_or b 0 0) (get_or b 1 0)), tt))
operands_tell a_bus_edit b =
    let v = storing a_bus_edit b in
    let at = source_at (get_or b 0 0) in
    let bytes = get_or b 1 0 ∷ extended (get_or b 2 0) ∷ get_or b 3 0 ∷ [] in
    (plain v 8 tt _, (eleven v (out_from fields at bytes) (λ k w e. ((lowest_out fields at bytes).some_out k w e).value), (plain_at v 12 tt _, tt)))
operands_tell (an_operation o) b = (plain (storing (an_operation o) b) 8 tt _, tt)

kind_tells : (k : Kind) (m : List ℕ) → All (RowTells (bringing k (bytes_in (record_of k m)) (packed_in (record_of k m)))) (kind_rows k m)
unfolding data_rows packed_of
kind_tells (of_dump k) m =
    let size = size_of k.packed in
    let value = standing (shape_of k.packed).table (pack (data_of size m)) in
    (plain value 8 tt _, (plain_at value 9 tt _, (plain value 10 tt _, packed_tell k.packed (pack (data_of size m)))))
kind_tells (of_short k) m = operands_tell k.operands (bytes_from (count_of k.operands) 4 m)
kind_tells unknown m = tt

message_tells : (m : List ℕ) → All (RowTells (brought_by m)) (message_rows m)
message_tells m =
    let v = brought_by m in
    (plain v 4 tt _, (plain v 5 tt _, (plain v 6 tt _, (plain v 7 tt _, kind_tells (kind_of (byte_at m 3)) m))))

walk_tells : (l : List ℕ) → All (RowTells (brought_by (complete l))) (walk_rows l)
walk_tells l =
    let v = brought_by (complete l) in
    (plain v 1 tt _, (plain v 2 tt _, (plain v 3 tt _, message_tells (complete l))))

given_tells : (k : Kind) (b p : List ℕ) → All (RowTells (bringing k b p)) (given_rows k b p)
given_tells (of_dump k) b p =
    let v = standing (shape_of k.packed).table p in
    (plain v 7 tt _, (plain v 8 tt _, packed_tell k.packed p))
given_tells (of_short k) b p = (plain (storing k.operands b) 7 tt _, operands_tell k.operands b)
given_tells unknown b p = tt

-- 13 behind the rows.
room_tells : (value : ℕ → ℤ) (rows : List Row) (n : ℕ) (out : List ℕ) → All (RowTells value) rows → All (RowTells value) (then_room rows n out)
room_tells value rows n out a = all_append (RowTells value) rows _ a (plain value 13 tt _, tt)

-- Rows refuse, or those behind them decide: an edit's own and the patch's, the first patch's and the second's.
one_or_other : (v w : ℕ → ℤ) (rows more : List Row) {d : ℕ} {o : Outcome} → Refusals rows → Refusals more → All (RowTells v) rows → All (RowTells w) more
    → Decides (rows ++ more) d o → (((tested rows).answer ≡ 0 → ⊥) → Tells v o) × ((tested rows).answer ≡ 0 → Tells w o)
one_or_other v w rows more {d} r q a b c =
    let is = is_first (rows ++ more) d _ (both_refusals rows more r q) c in
    let own : Decides rows 0 (tested rows) = decides rows 0 [] [] _ r refl in
    let behind : Decides more d (outcome_of (first more (done d [] []))) = decides more d [] [] _ q refl in (
      (λ n. subst (Tells v) (sym (is ∙ ap outcome_of (stopped rows more (done d [] []) n))) (decided v rows a own)),
      (λ z. subst (Tells w) (sym (is ∙ ap outcome_of (passed_over rows more (done d [] []) (answered_silent rows r z)))) (decided w more b behind)),
    )

edited : (value : ℕ → ℤ) (rows : List Row) (p : List ℕ) {o : Outcome} → Refusals rows → All (RowTells value) rows → Decides (rows ++ patch_rows p) 0 o
    → (((tested rows).answer ≡ 0 → ⊥) → Tells value o) × ((tested rows).answer ≡ 0 → Tells (in_patch p) o)
edited value rows p r a c = one_or_other value (in_patch p) rows (patch_rows p) r (patch_refusals p) a (patch_tells p) c

-- Behind the two patches stand rows of other numbers than 11.
paired : (a b : List ℕ) (more : List Row) {d : ℕ} {o : Outcome} → Refusals more → All (RowTells (in_patch b)) more → Decides (pair_rows a b ++ more) d o
    → FirstThenSecond a b o
paired a b more r t c =
    let v = in_patch b in
    let behind = name_rows a b ++ more in
    one_or_other (in_patch a) v (patch_rows a) (patch_rows b ++ behind) (patch_refusals a) (both_refusals (patch_rows b) behind (patch_refusals b) (omega arith, r))
    (patch_tells a) (all_append (RowTells v) (patch_rows b) behind (patch_tells b) (plain v 16 tt _, t)) c

-- No row of a bank's table says a value with another answer than 11.
abbrev Other : Outcome → Type 0
Other o = (o.answer ≡ 11 → ⊥) → o.value ≡ pos 0

others : (value : ℕ → ℤ) (rows : List Row) → All (RowTells value) rows → All (Says Other) rows
others value rows a = all_weaken (RowTells value) (Says Other) (λ r t. record { so = λ o e. (t.so o e).other }) rows a

patches_other : (n : ℕ) (ps : List ℕ) → All (Says Other) (patches_rows n ps)
patches_other zero ps = tt
patches_other (suc n) ps =
    let p = take size ps in
    all_append (Says Other) (field_rows p) (patches_rows n (drop size ps)) (others (in_patch p) (field_rows p) (fields_tell p)) (patches_other n (drop size ps))

bank_tells : (ps out : List ℕ) → let r = (writing_bank ps out).result in Tells (in_patch (patch_at r.place ps)) r.outcome
bank_tells ps out = by_place (demand_1.bank_place ps out)
  where
    b : Placed
    b = (writing_bank ps out).result

    value : ℕ → ℤ
    value = in_patch (patch_at b.place ps)

    rest : All (Says Other) (bank_table ps out)
    rest = (
      (others value (_ ∷ []) (plain value 7 tt _, tt)).0,
      all_append (Says Other) (patches_rows (length ps / size) ps) _ (patches_other (length ps / size) ps) (others value (_ ∷ []) (plain value 13 tt _, tt)),
    )

    not_11 : (n : ℕ) → T (not (eqb n 11)) → b.outcome.answer ≡ n → Tells value b.outcome
    not_11 n t e =
        let never : b.outcome.answer ≡ 11 → ⊥ = λ z. subst (λ (m : ℕ). T (not (eqb m 11))) (sym e ∙ z) t in
        record { out = λ z. absurd (never z); other = decided_so Other (bank_table ps out) (λ z. refl) rest (demand_1.bank ps out).decides }

    by_place : PlaceOf ps b → Tells value b.outcome
    by_place (refused_patch e n h) =
        let p = patch_at b.place ps in
        subst (Tells value) (sym e) (decided value (field_rows p) (fields_tell p) (decides (field_rows p) 0 [] [] _ (field_refusals p) refl))
    by_place (no_patch z a) = ⊎_elim (not_11 0 tt) (⊎_elim (not_11 7 tt) (not_11 13 tt)) a

-- Each report, and each that one call makes.
abbrev Reported : List ℕ → Report → Type 0
Reported s r = Tells (brought_by (complete (found_in s r.start))) (outcome_of r.verdict)

reported : (s : List ℕ) (place : ℕ) → All (Reported s) (reports_from judge (length s) s place)
reported s place =
    all_weaken _ (Reported s) (λ r c. decided _ (walk_rows (found_in s r.start)) (walk_tells (found_in s r.start)) c)
    (reports_from judge (length s) s place) (demand_1.reports_each s place)

reported_made : (s : List ℕ) (place : ℕ) (room : List ℕ) → All (Reported s) (made s place room)
reported_made s place room = made_all (Reported s) s place room (reported s place)

pub says_what_was_found : SaysWhatWasFound
says_what_was_found =
    let d = demand_1 in
    record {
      walk = λ s place. decided _ (walk_rows (found_in s place)) (walk_tells (found_in s place)) (d.walk s place);
      step = λ u s place. decided _ (walk_rows (found_in s place)) (walk_tells (found_in s place)) (d.walk s place);
      reports_each = reported;
      read = λ s place lent.
          let rows = walk_rows (found_in s place) in
          decided _ (then_room rows _ lent) (room_tells _ rows _ lent (walk_tells (found_in s place))) (d.read s place lent).decides;
      reports_made = reported_made;
      judges = λ m. decided _ (message_rows m) (message_tells m) (d.judges m);
      write = λ k b p out.
          let rows = given_rows k b p in
          decided _ (then_room rows _ out) (room_tells _ rows _ out (given_tells k b p)) (d.write k b p out).decides;
      bank = bank_tells;
      test = λ p. decided _ (patch_rows p) (patch_tells p) (d.test p);
      set_name = λ p text.
          let v = in_patch p in
          decided v _ (plain v 7 tt _, (plain v 7 tt _, (plain v 8 tt _, fields_tell p))) (d.set_name p text).decides;
      show_name = λ p out. decided _ (then_room (patch_rows p) _ out) (room_tells _ (patch_rows p) _ out (patch_tells p)) (d.show_name p out).decides;
      held = λ n p. decided _ _ (plain (in_patch p) 8 tt _, patch_tells p) (d.held n p);
      test_split = λ p. decided _ _ (plain (standing (some split_fields) p) 7 tt _, (by_table split_fields p, tt)) (d.test_split p);
      test_edit = λ n v. decided _ (edit_rows n v) (operands_tell an_edit (n ∷ v ∷ [])) (d.test_edit n v);
      test_bus_edit = λ b s a t. decided _ (bus_rows b s a t) (operands_tell a_bus_edit (b ∷ s ∷ a ∷ t ∷ [])) (d.test_bus_edit b s a t);
      test_operands = λ o b. decided _ _ (plain (storing o b) 7 tt _, operands_tell o b) (d.test_operands o b);
      test_packed = λ q p. decided _ _ (plain (standing (shape_of q).table p) 7 tt _, packed_tell q p) (d.test_packed q p);
      test_table = λ n t p. decided _ _ (plain (standing t p) 7 tt _, (by_shape t p, tt)) (d.test_table n t p);
      edit = λ n v p. edited _ (edit_rows n v) p (edit_refusals n v) (operands_tell an_edit (n ∷ v ∷ [])) (d.edit n v p).decides;
      bus_edit_tells = λ b s a t p.
          edited _ (bus_rows b s a t) p (bus_refusals b s a t) (operands_tell a_bus_edit (b ∷ s ∷ a ∷ t ∷ [])) (d.bus_edit_tells b s a t p).decides;
      test_pair = λ a b. paired a b [] tt tt (d.test_pair a b);
      check_plan = λ a b list. paired a b (list_row a b list) (omega arith) (plain (in_patch b) 20 tt _, tt) (d.check_plan a b list);
      plan = λ a b out. paired a b _ (omega arith) (plain (in_patch b) 13 tt _, tt) (d.plan a b out).decides;
    }
