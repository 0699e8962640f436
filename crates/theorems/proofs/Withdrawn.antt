-- The rows of every table are refusals, numbered 1 to 13, so no routine that answers by its table gives 14. With the former row each table comes to
-- the same: the tests of a 0BH edit do, whatever rows stand before and behind them.
use mathlib.Core.Path.{◌≡◌, refl, ap, subst, fun_ext}
use mathlib.Core.Bool.{Bool, true, false, not}
use mathlib.Core.List.{List, [], ◌∷◌, ◌++◌, map, append-nil}
use Prim.Native.Nat.{ℕ}
use native.Mathlib.Omega.{arith}
use lib.Dec.{eqb, leb, ltb}
use lib.ListN.{length, take, get_or}
use Rattle.answers.specs.declared.Outcome.{Outcome}
use Rattle.answers.specs.Table.{Row, row, Verdict, done, refused, first, outcome_of}
use Rattle.answers.specs.Effect.{tested, changed, at_start, written}
use Rattle.answers.specs.promises.Decides.{Decides}
use Rattle.answers.specs.Lists.{All}
use Rattle.answers.proofs.Lists.{all_weaken}
use Rattle.answers.proofs.Rows.{Refusals, both_refusals, decides_number}
use Rattle.streams.specs.Stream as stream
use Rattle.patch.specs.Patch.{patch_rows}
use Rattle.patch.proofs.Tests.{patch_refusals}
use Rattle.names.specs.Names.{shown}
use Rattle.edits.specs.Edits.{edit_rows, bus_rows, with_bus, applying_bus}
use Rattle.edits.specs.promises.Withdrawn.{No8}
use Rattle.edits.proofs.Tests.{edit_refusals, bus_refusals}
use Rattle.edits.proofs.Amounts.{same_tests}
use Rattle.messages.specs.declared.kinds.Operands.{Operands}
use Rattle.messages.specs.declared.kinds.Operands.TheVariants.{Edit as an_edit, BusEdit as a_bus_edit, Operation as an_operation}
use Rattle.messages.specs.declared.kinds.Kind.{Kind}
use Rattle.messages.specs.declared.kinds.Kind.TheVariants.{Dump as of_dump, Short as of_short, Unknown as unknown}
use Rattle.messages.specs.Kinds.{maker, device, kind_of, count_of, length_of, is_unknown}
use Rattle.messages.specs.Judge.{byte_at, operand_rows, lent_operand_rows, bytes_from, kind_rows, record_of, judge}
use Rattle.messages.specs.Layout.{message, given_rows}
use Rattle.messages.proofs.Numbers.{message_refusals, given_refusals, operand_refusals}
use Rattle.reading.specs.code.Rooms.{made}
use Rattle.writing.specs.Writing.{writing}
use Rattle.pairs.specs.Pairs.{pair_rows}
use Rattle.pairs.proofs.Pair.{pair_refusals}
use Rattle.edit_lists.specs.Lists.{list_bytes}
use Rattle.edit_lists.specs.Plan.{plan as list_for}
use Rattle.edit_lists.proofs.Answers.{check_refusals}
use Rattle.theorems.specs.Answers.{found, walk_rows}
use Rattle.theorems.specs.Withdrawn.{Not14, NoInputGives14, former_short, formerly, former_judge, former_writing, former_applying_bus, Withdrawn}
use Rattle.theorems.proofs.Answers.{walk_refusals, room_refusals, bank_table_refusals, demand_1, made_all}

-- What rows of refusals decide is not 14.
not_14 : (rows : List Row) (detail : ℕ) (o : Outcome) → Refusals rows → Decides rows detail o → Not14 o
not_14 rows detail o a d z = (decides_number rows detail o a d (λ y. omega arith)).1 z

-- Nor is any of the reports from a place on, or of those that one call makes.
abbrev ReportNot14 : stream.Report → Type 0
ReportNot14 r = Not14 (outcome_of r.verdict)

reported : (s : List ℕ) (place : ℕ) → All ReportNot14 (stream.reports_from judge (length s) s place)
reported s place =
    all_weaken _ ReportNot14 (λ r h. not_14 _ _ _ (walk_refusals (found s r.start)) h) (stream.reports_from judge (length s) s place)
    (demand_1.reports_each s place)

reported_made : (s : List ℕ) (place : ℕ) (room : List ℕ) → All ReportNot14 (made s place room)
reported_made s place room = made_all ReportNot14 s place room (reported s place)

-- Nor is what is recorded of a message that is not 14: 13 may come of it.
recorded : (f e : ℕ) (v : Verdict) (n : ℕ) (lent : List ℕ) → Not14 (outcome_of v) → Not14 (stream.read_into f e v n lent).result.outcome
recorded f e (refused o) n lent h = h
recorded f e (done o b p) n lent h = by_room (leb (length p) (length lent)) refl
  where
    by_room : (t : Bool) → leb (length p) (length lent) ≡ t → Not14 (stream.read_into f e (done o b p) n lent).result.outcome
    by_room true q = rw q (λ z. omega arith)
    by_room false q = rw q (λ z. omega arith)

pub no_input_gives_14 : NoInputGives14
no_input_gives_14 =
    let d = demand_1 in
    let judged : (m : List ℕ) → Not14 (outcome_of (judge m)) = λ m. not_14 _ _ _ (message_refusals m) (d.judges m) in
    record {
      walk = λ s place. not_14 _ _ _ (walk_refusals (found s place)) (d.walk s place);
      step = λ u s place. not_14 _ _ _ (walk_refusals (found s place)) (d.walk s place);
      reports_each = reported;
      reports_made = reported_made;
      read = λ s place lent. not_14 _ _ _ (room_refusals (walk_rows (found s place)) _ lent (walk_refusals (found s place))) (d.read s place lent).decides;
      judges = judged;
      records = λ f e n m lent. recorded f e (judge m) n lent (judged m);
      write = λ k b p out. not_14 _ _ _ (room_refusals (given_rows k b p) _ out (given_refusals k b p)) (d.write k b p out).decides;
      bank = λ ps out. not_14 _ _ _ (bank_table_refusals ps out) (d.bank ps out).decides;
      edit = λ n v p. not_14 _ _ _ (both_refusals (edit_rows n v) (patch_rows p) (edit_refusals n v) (patch_refusals p)) (d.edit n v p).decides;
      bus_edit_tells = λ b s a t p.
          not_14 _ _ _ (both_refusals (bus_rows b s a t) (patch_rows p) (bus_refusals b s a t) (patch_refusals p)) (d.bus_edit_tells b s a t p).decides;
      test = λ p. not_14 _ _ _ (patch_refusals p) (d.test p);
      test_split = λ p. not_14 _ _ _ (omega arith) (d.test_split p);
      range = λ n. not_14 _ _ _ (omega arith) (d.range n);
      held = λ n p. not_14 _ _ _ (omega arith, patch_refusals p) (d.held n p);
      test_edit = λ n v. not_14 _ _ _ (edit_refusals n v) (d.test_edit n v);
      test_bus_edit = λ b s a t. not_14 _ _ _ (bus_refusals b s a t) (d.test_bus_edit b s a t);
      test_packed = λ q p. not_14 _ _ _ (omega arith) (d.test_packed q p);
      test_operands = λ o b. not_14 _ _ _ (omega arith, operand_refusals o b) (d.test_operands o b);
      test_table = λ n t p. not_14 _ _ _ (omega arith) (d.test_table n t p);
      test_pair = λ a b. not_14 _ _ _ (pair_refusals a b) (d.test_pair a b);
      check_plan = λ a b list. not_14 _ _ _ (check_refusals a b list) (d.check_plan a b list);
      plan = λ a b out. not_14 _ _ _ (room_refusals (pair_rows a b) (length (list_bytes (list_for a b))) out (pair_refusals a b)) (d.plan a b out).decides;
      set_name = λ p text. not_14 _ _ _ (omega arith) (d.set_name p text).decides;
      show_name = λ p out. not_14 _ _ _ (room_refusals (patch_rows p) (length (map shown (take 8 p))) out (patch_refusals p)) (d.show_name p out).decides;
      packs = λ sent out. not_14 _ _ _ (omega arith) (d.packs sent out).decides;
      unpacks = λ bytes out. not_14 _ _ _ (omega arith) (d.unpacks bytes out).decides;
    }

-- The tests of a short message with their former row, whatever rows stand before them, 8 not among these, and behind them.
short_same : (before : List Row) → No8 before → (o : Operands) (b : List ℕ) (behind : List Row) (v : Verdict)
    → let rows = before ++ (operand_rows o b ++ behind) in first (former_short o b rows) v ≡ first rows v
short_same before w an_edit b behind v = refl
short_same before w a_bus_edit b behind v = same_tests.same before w (get_or b 0 0) (get_or b 1 0) (get_or b 2 0) (get_or b 3 0) behind v
short_same before w (an_operation o) b behind v = refl

-- The rows of a message before those of its kind.
module _ (m : List ℕ) (k : Kind) where
  abbrev head : List Row
  head =
      row 4 (not (eqb (byte_at m 1) maker)) ∷
      row 5 (not (eqb (byte_at m 2) device)) ∷
      row 6 (is_unknown k) ∷
      row 7 (not (eqb (length m) (length_of k))) ∷ []

  message_same : (o : Operands) (v : Verdict)
      → let rows = head ++ operand_rows o (bytes_from (count_of o) 4 m) in first (former_short o (bytes_from 4 4 m) rows) v ≡ first rows v
  unfolding bus_rows
  message_same an_edit v = refl
  message_same a_bus_edit v = short_same head (omega arith) a_bus_edit (bytes_from 4 4 m) [] v
  message_same (an_operation o) v = refl

kind_same : (k : Kind) (m : List ℕ)
    → let rows = head m k ++ kind_rows k m in first (formerly k (bytes_from 4 4 m) rows) (record_of k m) ≡ first rows (record_of k m)
kind_same (of_dump k) m = refl
kind_same (of_short k) m = message_same m (of_short k) k.operands (record_of (of_short k) m)
kind_same unknown m = refl

judge_same : (m : List ℕ) → former_judge m ≡ judge m
unfolding judge
judge_same m = kind_same (kind_of (byte_at m 3)) m

-- So the two are one function.
all_same : former_judge ≡ judge
all_same = fun_ext judge_same

lent_same : (o : Operands) (b : List ℕ) (behind : List Row) (v : Verdict)
    → let rows = lent_operand_rows o b ++ behind in first (former_short o b rows) v ≡ first rows v
lent_same o b behind v = short_same (row 7 (not (eqb (length b) (count_of o))) ∷ []) (omega arith) o b behind v

write_same : (k : Kind) (b p out : List ℕ) → former_writing k b p out ≡ writing k b p out
unfolding bus_rows
write_same (of_dump k) b p out = refl
write_same (of_short k) b p out = by_its_operands k.operands
  where
    by_its_operands : (o : Operands) → written (former_short o b (lent_operand_rows o b)) (message (of_short k) b p) out
        ≡ written (lent_operand_rows o b) (message (of_short k) b p) out
    by_its_operands an_edit = refl
    by_its_operands a_bus_edit =
        let m = message (of_short k) b p in
        ap (changed (length m) (at_start m out) out) (lent_same a_bus_edit b (row 13 (ltb (length out) (length m)) ∷ []) (done 0 [] []))
    by_its_operands (an_operation o) = refl
write_same unknown b p out = refl

bus_same : (b s a d : ℕ) (p : List ℕ) → former_applying_bus b s a d p ≡ applying_bus b s a d p
unfolding applying_bus
bus_same b s a d p = ap (changed 0 (with_bus b s a d p) p) (same_tests.same [] tt b s a d (patch_rows p) (done 0 [] []))

pub withdrawn : Withdrawn
withdrawn = record {
  judges = judge_same;
  walk = λ s place. ap (λ (j : List ℕ → Verdict). stream.walk j s place) all_same;
  reports = λ s place. ap (λ (j : List ℕ → Verdict). stream.reports_from j (length s) s place) all_same;
  read = λ s place lent. ap (λ (j : List ℕ → Verdict). stream.read j s place lent) all_same;
  write = write_same;
  test_operands = λ o b.
      subst (λ (rows : List Row). tested (former_short o b rows) ≡ tested rows) (append-nil (lent_operand_rows o b))
      (ap outcome_of (lent_same o b [] (done 0 [] [])));
  bus_edit_tells = bus_same;
}
