-- What the checker and the planner answer, by the tests of the pair and then by the list; and the claims.
use mathlib.Core.Path.{◌≡◌, refl, sym, ap, ◌∙◌, subst}
use mathlib.Core.Bool.{Bool, true, false, not}
use mathlib.Core.List.{List, [], ◌∷◌, ◌++◌}
use mathlib.Core.Logic.{◌↔◌}
use mathlib.Core.Option.{none}
use Prim.Native.Nat.{ℕ, ◌≤◌, ◌<◌}
use native.Mathlib.Omega.{arith}
use lib.Dec.{ltb}
use lib.ListN.{length, take, drop, length-map}
use lib.Seq.{take_at}
use borrow.Author.Tests.{not-false, lt-ltb, ltb-true}
use Rattle.answers.specs.declared.Outcome.{Outcome}
use Rattle.answers.specs.Lists.{All}
use Rattle.answers.specs.Table.{Row, row, number_of, says, Verdict, done, refused, first, outcome, outcome_of}
use Rattle.answers.specs.Effect.{Effect, at_start}
use Rattle.answers.specs.promises.Decides.{Silent}
use Rattle.answers.proofs.Lists.{all_append}
use Rattle.answers.proofs.Rows.{Refusals, both_refusals, passed_over, silent_parts, row_silent}
use Rattle.answers.proofs.Rows.{answered_silent, tested_passed, stopped, first_number, is_first}
use Rattle.answers.proofs.Effects.{written_done, written_fits, written_decides}
use Rattle.patch.specs.Patch.{patch_rows}
use Rattle.pairs.specs.Pairs.{same_bytes, name_of, pair_rows}
use Rattle.pairs.proofs.Equal.{same_refl, same_equal}
use Rattle.pairs.proofs.Pair.{name_rows, pair_refusals, pair_silent, silent_pair}
use Rattle.edit_lists.specs.Lists.{Edit, list_bytes, Accepted}
use Rattle.edit_lists.specs.Plan.{parts, differing, reaching, plan, planning}
use Rattle.edit_lists.specs.Check.{accepts, checking}
use Rattle.edit_lists.specs.promises.Shortest.{Good, Listed, planned, TestedFirst, Pair as EditPair, ShortestList}
use Rattle.edit_lists.proofs.Parts.{differing_refl}
use Rattle.edit_lists.proofs.Reach.{good_silent, good_answer, by_good}
use Rattle.edit_lists.proofs.Lists.{same_last, joined, name_kept, as_many, plan_accepted, in_turn}
use Rattle.edit_lists.proofs.Rising.{rising}
use Rattle.edit_lists.proofs.Count.{parts_counted}
use Rattle.edit_lists.proofs.Bytes.{accepted_there, accepted_back, bytes_joined, one_list}

-- The checker's table.
module _ (a b s : List ℕ) where
  abbrev pub list_row : List Row
  list_row = row 20 (not (accepts a b s)) ∷ []

  pub check_refusals : Refusals (pair_rows a b ++ list_row)
  check_refusals = both_refusals (pair_rows a b) list_row (pair_refusals a b) (omega arith)

  checked : (checking a b s).answer ≡ 0 → Good a × Good b × Listed a b s
  unfolding checking
  checked z =
      let all = silent_parts (pair_rows a b) list_row (answered_silent (pair_rows a b ++ list_row) check_refusals z) in
      let p = silent_pair a b all.0 in
      let t = not-false _ (row_silent 20 (not (accepts a b s)) all.1.0) in
      (tested_passed (patch_rows a) p.from, tested_passed (patch_rows b) p.to, accepted_there a b s t)

  pub checks : Good a → Good b → Listed a b s → checking a b s ≡ outcome 0 0
  unfolding checking
  checks g f l =
      let names : name_of a ≡ name_of b = name_kept a b l.edits l.accepted in
      tested_passed (pair_rows a b ++ list_row)
      (all_append (λ (r : Row). says r ≡ none) (pair_rows a b) list_row (pair_silent a b (good_silent a g) (good_silent b f) names)
      (rw (accepted_back a b s l) (refl, tt)))

-- The planner.
module _ (a b out : List ℕ) (z : (planning a b out).result.answer ≡ 0) where
  abbrev list : List ℕ
  list = list_bytes (plan a b)

  done_so : Silent (pair_rows a b) × (length list ≤ length out)
  done_so = unfold planning in (written_done (pair_rows a b) list out (pair_refusals a b) z)

  written_so : planning a b out ≡ record { result = outcome 0 (length list); lent = at_start list out }
  written_so = unfold planning in (written_fits (pair_rows a b) list out done_so.0 done_so.1)

  is_planned : planned a b out ≡ list
  is_planned =
      ap (λ (e : Effect Outcome). take e.result.detail e.lent) written_so ∙ take_at list (drop (length list) out) (length list) refl

  proposed : checking a b (planned a b out) ≡ outcome 0 0
  proposed =
      let p = silent_pair a b done_so.0 in
      let g = tested_passed (patch_rows a) p.from in
      let f = tested_passed (patch_rows b) p.to in
      ap (checking a b) is_planned ∙ checks a b list g f (record { edits = plan a b; bytes = refl; accepted = plan_accepted a b g f p.names })

plan_length : (a b : List ℕ) → length (plan a b) ≡ length (differing parts a b)
unfolding plan
plan_length a b = length-map (differing parts a b) (reaching b)

plan_none : (a b : List ℕ) → a ≡ b → plan a b ≡ []
unfolding plan
plan_none a b e = rw (e, differing_refl parts b)

none_shorter : (a b : List ℕ) (es : List Edit) → (checking a b (list_bytes es)).answer ≡ 0 → length (plan a b) ≤ length es
none_shorter a b es z =
    let l = (checked a b (list_bytes es) z).2 in
    let own = ap length (one_list l.edits es l.bytes) in
    let n = as_many a b l.edits l.accepted in
    omega (arith, plan_length a b)

joined_lists : (a b c s t : List ℕ) → (checking a b s).answer ≡ 0 → (checking b c t).answer ≡ 0 → checking a c (s ++ t) ≡ outcome 0 0
joined_lists a b c s t z w =
    let x = checked a b s z in
    let y = checked b c t w in
    let l = x.2 in
    let m = y.2 in
    checks a c (s ++ t) x.0 y.1
    (record { edits = l.edits ++ m.edits; bytes = bytes_joined l.edits m.edits ∙ cc; accepted = joined a b c l.edits m.edits l.accepted m.accepted })

-- A number that none of some rows has is not what they answer.
abbrev Without : ℕ → List Row → Type 0
Without n rows = All (λ (r : Row). number_of r ≡ n → ⊥) rows

never : (n : ℕ) (rows : List Row) (d : ℕ) → (0 ≡ n → ⊥) → Without n rows → (outcome_of (first rows (done d [] []))).answer ≡ n → ⊥
never n rows d z w e = go (first rows (done d [] [])) refl e
  where
    go : (v : Verdict) → first rows (done d [] []) ≡ v → (outcome_of v).answer ≡ n → ⊥
    go (done o b p) q e = z e
    go (refused o) q e = first_number (λ (k : ℕ). k ≡ n → ⊥) rows d [] [] o w q e

-- What is answered behind a pair that passes: by the rows there.
module _ (a b : List ℕ) (more : List Row) (d : ℕ) where
  abbrev told : Outcome
  told = outcome_of (first (pair_rows a b ++ more) (done d [] []))

  abbrev rest : Outcome
  rest = outcome_of (first more (done d [] []))

  abbrev second_rows : List Row
  second_rows = (patch_rows b ++ name_rows a b) ++ more

  over_first : Silent (patch_rows a) → told ≡ outcome_of (first second_rows (done d [] []))
  over_first s = ap outcome_of (passed_over (patch_rows a) second_rows (done d [] []) s)

  -- Both patches good, the names decide.
  goods : Silent (patch_rows a) → Silent (patch_rows b) → (t : Bool) → same_bytes (name_of a) (name_of b) ≡ t
      → told ≡ outcome_of (first (row 16 (not t) ∷ more) (done d [] []))
  goods s u t q = over_first s ∙ rw (passed_over (patch_rows b) (name_rows a b ++ more) (done d [] []) u, q)

  behind_pair : EditPair a b → told ≡ rest
  behind_pair p = goods (good_silent a p.0) (good_silent b p.1) true (ap (same_bytes (name_of a)) (sym p.2) ∙ same_refl (name_of a))

  tested_first : TestedFirst a b told
  tested_first = record {
    first = λ n. ap outcome_of (stopped (patch_rows a) second_rows (done d [] []) (λ z. n (good_answer a z)));
    second = λ g n.
        over_first (good_silent a g) ∙ ap outcome_of (stopped (patch_rows b) (name_rows a b ++ more) (done d [] []) (λ z. n (good_answer b z)));
    names = λ g f n. differ g f n (same_bytes (name_of a) (name_of b)) refl;
  }
    where
      differ : Good a → Good b → (name_of a ≡ name_of b → ⊥) → (t : Bool) → same_bytes (name_of a) (name_of b) ≡ t → told ≡ outcome 16 0
      differ g f n true q = absurd (n (same_equal (name_of a) (name_of b) q))
      differ g f n false q = goods (good_silent a g) (good_silent b f) false q

  -- A number that no patch is refused by says that both are good; but for 16, that the names are one, and the rows behind have it.
  module _ (n : ℕ) (z : 0 ≡ n → ⊥) (wa : Without n (patch_rows a)) (wb : Without n (patch_rows b)) (e : told.answer ≡ n) where
    from_good : Good a
    from_good = by_good a (λ g. g) (λ m. absurd (never n (patch_rows a) 0 z wa (ap (λ (o : Outcome). o.answer) (sym (tested_first.first m)) ∙ e)))

    to_good : Good b
    to_good = by_good b (λ g. g) (λ m. absurd (never n (patch_rows b) 0 z wb (ap (λ (o : Outcome). o.answer) (sym (tested_first.second from_good m)) ∙ e)))

    one_name : (16 ≡ n → ⊥) → EditPair a b × (rest.answer ≡ n)
    one_name m = go (same_bytes (name_of a) (name_of b)) refl
      where
        go : (t : Bool) → same_bytes (name_of a) (name_of b) ≡ t → EditPair a b × (rest.answer ≡ n)
        go true q =
            let p : EditPair a b = (from_good, to_good, same_equal (name_of a) (name_of b) q) in
            (p, sym (ap (λ (o : Outcome). o.answer) (behind_pair p)) ∙ e)
        go false q = absurd (m (sym (ap (λ (o : Outcome). o.answer) (goods (good_silent a from_good) (good_silent b to_good) false q)) ∙ e))

    other_name : Without n more → Good a × Good b × (name_of a ≡ name_of b → ⊥)
    other_name w =
        (from_good, to_good, λ same. never n more d z w (sym (ap (λ (o : Outcome). o.answer) (behind_pair (from_good, to_good, same))) ∙ e))

  sixteen : Without 16 more → (told.answer ≡ 16) ↔ (Good a × Good b × (name_of a ≡ name_of b → ⊥))
  sixteen w = (
    λ e. other_name 16 (λ z. omega arith) (omega arith) (omega arith) e w,
    λ h. ap (λ (o : Outcome). o.answer) (tested_first.names h.0 h.1 h.2),
  )

-- The checker's outcome, and the planner's, are such.
module _ (a b s : List ℕ) where
  checked_as : checking a b s ≡ told a b (list_row a b s) 0
  checked_as = unfold checking in refl

  not_accepted : ((checking a b s).answer ≡ 20) ↔ (EditPair a b × (Listed a b s → ⊥))
  not_accepted = (there, back)
    where
      there : (checking a b s).answer ≡ 20 → EditPair a b × (Listed a b s → ⊥)
      there e =
          let z = ap (λ (o : Outcome). o.answer) (sym checked_as) ∙ e in
          let h = one_name a b (list_row a b s) 0 20 (λ z. omega arith) (omega arith) (omega arith) z (λ z. omega arith) in
          (h.0, λ l. zero_20 (ap (λ (o : Outcome). o.answer) (sym (checks a b s h.0.0 h.0.1 l)) ∙ e))
        where
          zero_20 : ◌≡◌ {A = ℕ} 0 20 → ⊥
          zero_20 e = omega arith

      back : EditPair a b × (Listed a b s → ⊥) → (checking a b s).answer ≡ 20
      back h = ap (λ (o : Outcome). o.answer) (checked_as ∙ behind_pair a b (list_row a b s) 0 h.0) ∙ go (accepts a b s) refl
        where
          go : (t : Bool) → accepts a b s ≡ t → (rest a b (list_row a b s) 0).answer ≡ 20
          go true q = absurd (h.1 (accepted_there a b s q))
          go false q = rw q

module _ (a b out : List ℕ) where
  abbrev fit_row : List Row
  fit_row = row 13 (ltb (length out) (length (list_bytes (plan a b)))) ∷ []

  planned_as : (planning a b out).result ≡ told a b fit_row (length (list_bytes (plan a b)))
  unfolding planning
  planned_as =
      is_first (pair_rows a b ++ fit_row) (length (list_bytes (plan a b))) _ (both_refusals (pair_rows a b) fit_row (pair_refusals a b) (omega arith))
      (written_decides (pair_rows a b) (list_bytes (plan a b)) out (pair_refusals a b))

  no_room : ((planning a b out).result.answer ≡ 13) ↔ (EditPair a b × (length out < length (list_bytes (plan a b))))
  no_room = (there, back)
    where
      n : ℕ
      n = length (list_bytes (plan a b))

      there : (planning a b out).result.answer ≡ 13 → EditPair a b × (length out < n)
      there e =
          let z = ap (λ (o : Outcome). o.answer) (sym planned_as) ∙ e in
          let h = one_name a b fit_row n 13 (λ z. omega arith) (omega arith) (omega arith) z (λ z. omega arith) in
          (h.0, go (ltb (length out) n) refl h.1)
        where
          go : (t : Bool) → ltb (length out) n ≡ t → (outcome_of (first (row 13 t ∷ []) (done n [] []))).answer ≡ 13 → length out < n
          go true q e = ltb-true (length out) n q
          go false q e = absurd (omega arith)

      back : EditPair a b × (length out < n) → (planning a b out).result.answer ≡ 13
      back h = ap (λ (o : Outcome). o.answer) (planned_as ∙ behind_pair a b fit_row n h.0) ∙ rw (lt-ltb (length out) n h.1)

  room_there : EditPair a b → length (list_bytes (plan a b)) ≤ length out
      → planning a b out ≡ record { result = outcome 0 (length (list_bytes (plan a b))); lent = at_start (list_bytes (plan a b)) out }
  room_there p h =
      unfold planning in
      (written_fits (pair_rows a b) (list_bytes (plan a b)) out (pair_silent a b (good_silent a p.0) (good_silent b p.1) p.2) h)

pair_accepted : (a b : List ℕ) → EditPair a b → checking a b (list_bytes (plan a b)) ≡ outcome 0 0
pair_accepted a b p =
    checks a b (list_bytes (plan a b)) p.0 p.1 (record { edits = plan a b; bytes = refl; accepted = plan_accepted a b p.0 p.1 p.2 })

pub shortest_list : ShortestList
shortest_list = record {
  exactly = λ a b s. (checked a b s, λ h. ap (λ (o : Outcome). o.answer) (checks a b s h.0 h.1 h.2));
  not_accepted = not_accepted;
  in_turn = in_turn;
  one_list = one_list;
  accepted = pair_accepted;
  written = room_there;
  no_room = no_room;
  proposed = proposed;
  rising = rising;
  none_shorter = none_shorter;
  counted = λ a b g f. plan_length a b ∙ parts_counted a b g f;
  empty = λ a b p. (λ z. same_last a b (subst (Accepted a b) z (plan_accepted a b p.0 p.1 p.2)), plan_none a b);
  joined = joined_lists;
  checker_first = λ a b s. rw (checked_as a b s) (tested_first a b (list_row a b s) 0);
  planner_first = λ a b out. rw (planned_as a b out) (tested_first a b (fit_row a b out) (length (list_bytes (plan a b))));
  checker_16 = λ a b s. rw (checked_as a b s) (sixteen a b (list_row a b s) 0 (omega arith));
  planner_16 = λ a b out. rw (planned_as a b out) (sixteen a b (fit_row a b out) (length (list_bytes (plan a b))) (omega arith));
}
