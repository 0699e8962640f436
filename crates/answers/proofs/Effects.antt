-- What a call that is lent a buffer gives, by its rows: where they refuse, the buffer keeps every byte; where they say nothing, it has the new ones.
-- Each law goes by the verdict that the rows come to.
use mathlib.Core.Path.{◌≡◌, refl, ap, sym, ◌∙◌}
use mathlib.Core.List.{List, [], ◌∷◌, ◌++◌}
use mathlib.Core.Option.{Option, none, some}
use Prim.Native.Nat.{ℕ, ◌<◌, ◌≤◌}
use native.Mathlib.Omega.{arith}
use lib.Dec.{ltb}
use lib.ListN.{length, drop}
use lib.Seq.{drop_at}
use borrow.Author.Tests.{lt-ltb, le-ltb, ltb-false}
use Rattle.answers.specs.declared.Outcome.{Outcome}
use Rattle.answers.specs.declared.Placed.{Placed}
use Rattle.answers.specs.Table.{Row, row, Verdict, done, refused, first, outcome, outcome_of, answer_of}
use Rattle.answers.specs.Effect.{Effect, told_as, tested, changed, written, no_place, unless_placed, Gives}
use Rattle.answers.specs.code.Found.{found_or}
use Rattle.answers.proofs.Rows.{Refusals, both_refusals, Heard, nothing, something, heard, decides}
use Rattle.answers.proofs.Rows.{first_append, first_passed, passed_over, silent_parts, zero_silent, answered_silent, row_silent, stopped, first_stopped}
use Rattle.answers.specs.promises.Decides.{Decides, Keeps, Silent}

-- Rows that a test answered by 0 say nothing.
pub passed : (rows : List Row) (r : Outcome) → Refusals rows → r ≡ tested rows → r.answer ≡ 0 → Silent rows
passed rows r a e z = answered_silent rows a (sym (ap (λ (o : Outcome). o.answer) e) ∙ z)

-- A lent buffer that a call changes, detail, new and old as in `changed`.
module _ (detail : ℕ) (new old : List ℕ) where
  changed_answer : (v : Verdict) → (changed detail new old v).result.answer ≡ answer_of v
  changed_answer (done o b p) = refl
  changed_answer (refused r) = refl

  -- Answered otherwise than 0, it keeps every byte.
  pub changed_kept : (v : Verdict) → ((changed detail new old v).result.answer ≡ 0 → ⊥) → (changed detail new old v).lent ≡ old
  changed_kept (done o b p) n = absurd (n refl)
  changed_kept (refused r) n = refl

  -- Answered 0, no row says anything.
  pub changed_silent : (rows : List Row) → Refusals rows → (changed detail new old (first rows (done 0 [] []))).result.answer ≡ 0 → Silent rows
  changed_silent rows a e = zero_silent rows (done 0 [] []) a (sym (changed_answer (first rows (done 0 [] []))) ∙ e)

  -- Its outcome is that of the rows, with the detail where they say nothing.
  pub changed_decides : (rows : List Row) → Refusals rows → Decides rows detail (changed detail new old (first rows (done 0 [] []))).result
  changed_decides rows a = decides rows detail [] [] _ a (same rows)
    where
      same : (rows : List Row) → (changed detail new old (first rows (done 0 [] []))).result ≡ outcome_of (first rows (done detail [] []))
      same [] = refl
      same (r ∷ rows) = go (heard r) (same rows)
        where
          go : Heard r → (changed detail new old (first rows (done 0 [] []))).result ≡ outcome_of (first rows (done detail [] []))
              → (changed detail new old (first (r ∷ rows) (done 0 [] []))).result ≡ outcome_of (first (r ∷ rows) (done detail [] []))
          go (nothing q) i = rw q i
          go (something o q) i = rw q

  -- Refused, it keeps every byte; done, those behind the first n, if the new bytes do.
  pub changed_keeps : (n : ℕ) (rows : List Row) → (Silent rows → drop n new ≡ drop n old) → Refusals rows
      → let e = changed detail new old (first rows (done 0 [] [])) in Keeps e.result.answer n old e.lent
  changed_keeps n rows h a = record {
    refused = changed_kept (first rows (done 0 [] []));
    behind = λ z.
        let s = changed_silent rows a z in
        rw (first_passed rows (done 0 [] []) s) (h s);
  }

  -- Rows that refuse give their own answer, whatever rows follow.
  pub gives_kept : (rows more : List Row) (v : Verdict) (r : Outcome) → r ≡ tested rows → (r.answer ≡ 0 → ⊥)
      → Gives (changed detail new old (first (rows ++ more) v)) r old
  gives_kept rows more v r e n =
      rw (stopped rows more v (λ z. n (ap (λ (o : Outcome). o.answer) e ∙ z))) (record { result = e; lent = refl })

  -- Rows that say nothing leave it to those that follow.
  pub gives_kept_behind : (rows more : List Row) (v : Verdict) (r : Outcome) → Silent rows → r ≡ tested more → (r.answer ≡ 0 → ⊥)
      → Gives (changed detail new old (first (rows ++ more) v)) r old
  gives_kept_behind rows more v r a e n =
      rw (passed_over rows more v a, first_stopped more v (λ z. n (ap (λ (o : Outcome). o.answer) e ∙ z))) (record { result = e; lent = refl })

  -- Where no row says anything the buffer has the new bytes.
  pub gives_changed : (rows : List Row) (r : Outcome) (after : List ℕ) → Silent rows → r ≡ outcome 0 detail → after ≡ new
      → Gives (changed detail new old (first rows (done 0 [] []))) r after
  gives_changed rows r after a e f = rw (first_passed rows (done 0 [] []) a) (record { result = e; lent = f })

-- A lent output into which bytes are written.
module _ (rows : List Row) (bytes out : List ℕ) where
  -- Bytes that no row refuses are written where they fit, and refused by 13 where they do not.
  pub written_fits : Silent rows → length bytes ≤ length out
      → written rows bytes out ≡ record { result = outcome 0 (length bytes); lent = bytes ++ drop (length bytes) out }
  written_fits a h = rw (first_append, first_passed rows _ a, le-ltb (length out) (length bytes) h)

  pub written_short : Silent rows → length out < length bytes → written rows bytes out ≡ record { result = outcome 13 0; lent = out }
  written_short a h = rw (first_append, first_passed rows _ a, lt-ltb (length out) (length bytes) h)

  -- Where a writer answers 0, no row says anything and the bytes fit.
  pub written_done : Refusals rows → (written rows bytes out).result.answer ≡ 0 → Silent rows × (length bytes ≤ length out)
  written_done a e =
      let room = row 13 (ltb (length out) (length bytes)) ∷ [] in
      let all = both_refusals rows room a (omega arith) in
      let s = silent_parts rows room (changed_silent (length bytes) (bytes ++ drop (length bytes) out) out (rows ++ room) all e) in
      (s.0, ltb-false (length out) (length bytes) (row_silent 13 (ltb (length out) (length bytes)) s.1.0))

  -- Its table is the rows and then 13; done, the bytes behind the output are kept.
  abbrev pub and_room : List Row
  and_room = rows ++ (row 13 (ltb (length out) (length bytes)) ∷ [])

  room_refusals : Refusals rows → Refusals and_room
  room_refusals a = both_refusals rows (row 13 (ltb (length out) (length bytes)) ∷ []) a (omega arith)

  pub written_decides : Refusals rows → Decides and_room (length bytes) (written rows bytes out).result
  written_decides a = changed_decides (length bytes) (bytes ++ drop (length bytes) out) out and_room (room_refusals a)

  pub written_keeps : Refusals rows → Keeps (written rows bytes out).result.answer (length bytes) out (written rows bytes out).lent
  written_keeps a =
      changed_keeps (length bytes) (bytes ++ drop (length bytes) out) out (length bytes) and_room
      (λ s. drop_at bytes (drop (length bytes) out) (length bytes) refl) (room_refusals a)

  -- Rows that refuse give their own answer, and every byte is kept.
  pub gives_stopped : (r : Outcome) → r ≡ tested rows → (r.answer ≡ 0 → ⊥) → Gives (written rows bytes out) r out
  gives_stopped r e n =
      gives_kept (length bytes) (bytes ++ drop (length bytes) out) out rows (row 13 (ltb (length out) (length bytes)) ∷ []) (done 0 [] []) r e n

  -- Rows that say nothing leave it to the room: 13 where there is too little, and every byte is kept.
  pub gives_short : (m : ℕ) (r : Outcome) → length bytes ≡ m → Silent rows → length out < m → r ≡ outcome 13 0 → Gives (written rows bytes out) r out
  gives_short m r l a h e = rw (written_short a (omega arith)) (record { result = e; lent = refl })

  -- Where there is room the bytes are written, and those behind them kept.
  pub gives_written : (after : List ℕ) (m : ℕ) (r : Outcome) → length bytes ≡ m → Silent rows → m ≤ length out → r ≡ outcome 0 m
      → after ≡ bytes ++ drop (length bytes) out → Gives (written rows bytes out) r after
  gives_written after m r l a h e w = rw (written_fits a (omega arith)) (record { result = e ∙ ap (outcome 0) (sym l); lent = w })

  -- The same where an outcome comes with a place, and this is about none.
  pub placed_short : (m : ℕ) (r : Placed) → length bytes ≡ m → Silent rows → length out < m → r ≡ no_place (outcome 13 0)
      → Gives (told_as no_place (written rows bytes out)) r out
  placed_short m r l a h e = rw (written_short a (omega arith)) (record { result = e; lent = refl })

  pub placed_written : (after : List ℕ) (m : ℕ) (r : Placed) → length bytes ≡ m → Silent rows → m ≤ length out → after ≡ bytes ++ drop m out
      → r ≡ no_place (outcome 0 m) → Gives (told_as no_place (written rows bytes out)) r after
  placed_written after m r l a h w e = rw (written_fits a (omega arith), l) (record { result = e; lent = w })

-- A refusal that is found is given, and every byte is kept.
pub gives_placed : (f : Option Placed) (lent : List ℕ) (e : Effect Placed) (r : Placed) → r ≡ found_or f → (r.outcome.answer ≡ 0 → ⊥)
    → Gives (unless_placed f lent e) r lent
gives_placed none lent e r q n = absurd (n (ap (λ (o : Placed). o.outcome.answer) q))
gives_placed (some b) lent e r q n = record { result = q; lent = refl }
