-- A table of refusals gives o exactly when some row says o and no row before it says anything.
-- Each law goes by the rows in their order, and by what the first of them says.
use mathlib.Core.Path.{◌≡◌, refl, ap, sym, ◌∙◌, subst}
use mathlib.Core.Bool.{Bool, true, false, not}
use mathlib.Core.List.{List, [], ◌∷◌, ◌++◌, append-nil}
use mathlib.Core.Logic.{◌⊎◌, ⊎_elim}
use mathlib.Core.Option.{Option, none, some}
use Prim.Native.Nat.{ℕ, ◌≤◌}
use native.Mathlib.Omega.{arith}
use lib.Dec.{eqb}
use borrow.Author.Tests.{eqb-true, not-false}
use Rattle.answers.specs.declared.Outcome.{Outcome}
use Rattle.answers.specs.Lists.{All}
use Rattle.answers.specs.Table.{Row, row, row_at, row_found, number_of, found, Verdict, done, refused, unless, first}
use Rattle.answers.specs.Table.{outcome, outcome_at, outcome_of, answer_of, says, Found}
use Rattle.answers.specs.Effect.{tested}
use Rattle.answers.proofs.Lists.{all_append, all_left, all_right}
use Rattle.answers.specs.promises.Decides.{Decides, FirstSays, Silent}

-- Rows after rows are tested after them.
pub first_append : (rows more : List Row) (v : Verdict) → first (rows ++ more) v ≡ first rows (first more v)
first_append [] more v = refl
first_append (r ∷ rows) more v = ap (unless (says r)) (first_append rows more v)

-- A row that says o gives o, whatever follows.
pub first_said : (r : Row) (rows : List Row) (v : Verdict) (o : Outcome) → says r ≡ some o → first (r ∷ rows) v ≡ refused o
first_said r rows v o e = rw e

-- Rows that say nothing pass the verdict on.
pub first_passed : (rows : List Row) (v : Verdict) → Silent rows → first rows v ≡ v
first_passed [] v a = refl
first_passed (r ∷ rows) v a = rw a.0 (first_passed rows v a.1)

-- They leave it to the rows that follow.
pub passed_over : (rows more : List Row) (v : Verdict) → Silent rows → first (rows ++ more) v ≡ first more v
passed_over rows more v a = first_append rows more v ∙ first_passed rows (first more v) a

-- Rows and the rows that follow say nothing: neither part does.
pub silent_parts : (rows more : List Row) → Silent (rows ++ more) → Silent rows × Silent more
silent_parts rows more a = (all_left (λ r. says r ≡ none) rows more a, all_right (λ r. says r ≡ none) rows more a)

-- What a row says is one of two things.
pub data Heard (r : Row) : Type 0 where
  nothing : says r ≡ none → Heard r
  something : (o : Outcome) → says r ≡ some o → Heard r

pub heard : (r : Row) → Heard r
heard (row n true) = something (outcome n 0) refl
heard (row n false) = nothing refl
heard (row_at n (some d)) = something (outcome n d) refl
heard (row_at n none) = nothing refl
heard (row_found n (some (found k v))) = something (outcome_at n k v) refl
heard (row_found n none) = nothing refl

-- A row that says nothing wherever the rows before it say nothing may stand there or not.
pub needless : (before : List Row) (r : Row) (after : List Row) (v : Verdict) → (Silent before → says r ≡ none)
    → first (before ++ r ∷ after) v ≡ first (before ++ after) v
needless [] r after v h = rw (h tt)
needless (x ∷ before) r after v h = go (heard x) (needless before r after v)
  where
    go : Heard x → ((Silent before → says r ≡ none) → first (before ++ r ∷ after) v ≡ first (before ++ after) v)
        → first (x ∷ (before ++ r ∷ after)) v ≡ first (x ∷ (before ++ after)) v
    go (nothing q) i = rw q (i (λ s. h (q, s)))
    go (something o q) i = rw q

-- Where the table gives a `done`, no row says anything, and it is the one that stands behind the rows.
pub done_passed : (rows : List Row) (v : Verdict) (o : ℕ) (b p : List ℕ) → first rows v ≡ done o b p → Silent rows × (v ≡ done o b p)
done_passed [] v o b p e = (tt, e)
done_passed (r ∷ rows) v o b p e = go (heard r) (done_passed rows v o b p)
  where
    go : Heard r → (first rows v ≡ done o b p → Silent rows × (v ≡ done o b p)) → Silent (r ∷ rows) × (v ≡ done o b p)
    go (nothing q) i = let s = i (rw q at e) in ((q, s.0), s.1)
    go (something x q) i = let f = rw q at e in let z : ◌≡◌ {A = ℕ} 0 1 = cc in absurd (omega arith)

-- Where a row is the first that says anything, the table gives what it says.
pub given_first : (rows : List Row) (v : Verdict) (o : Outcome) → FirstSays rows o → first rows v ≡ refused o
given_first rows v o f =
    rw (f.split, first_append f.before (f.here ∷ f.after) v, first_passed f.before (first (f.here ∷ f.after) v) f.silent)
    (first_said f.here f.after v o f.said)

-- Where the table refuses, some row is the first that says so.
pub first_given : (rows : List Row) (n : ℕ) (b p : List ℕ) (o : Outcome) → first rows (done n b p) ≡ refused o → FirstSays rows o
first_given [] n b p o e = let z : ◌≡◌ {A = ℕ} 0 1 = cc in absurd (omega arith)
first_given (r ∷ rows) n b p o e = go (heard r) (first_given rows n b p o)
  where
    go : Heard r → (first rows (done n b p) ≡ refused o → FirstSays rows o) → FirstSays (r ∷ rows) o
    go (nothing q) i =
        let f = i (rw q at e) in
        record { before = r ∷ f.before; here = f.here; after = f.after; split = ap (◌∷◌ r) f.split; silent = (q, f.silent); said = f.said }
    go (something x q) i =
        let same : refused x ≡ refused o = rw q at e in
        record { before = []; here = r; after = rows; split = refl; silent = tt; said = cc }

-- What a row that says nothing tests does not hold.
pub row_silent : (n : ℕ) (t : Bool) → says (row n t) ≡ none → t ≡ false
row_silent n true e = let z : ◌≡◌ {A = ℕ} 0 1 = cc in absurd (omega arith)
row_silent n false e = refl

-- Its search finds nothing.
pub row_at_silent : (n : ℕ) (o : Option ℕ) → says (row_at n o) ≡ none → o ≡ none
row_at_silent n (some d) e = let z : ◌≡◌ {A = ℕ} 0 1 = cc in absurd (omega arith)
row_at_silent n none e = refl

pub row_found_silent : (n : ℕ) (o : Option Found) → says (row_found n o) ≡ none → o ≡ none
row_found_silent n (some (found k v)) e = let z : ◌≡◌ {A = ℕ} 0 1 = cc in absurd (omega arith)
row_found_silent n none e = refl

-- Two numbers that it compares are equal.
pub row_equal : (n a b : ℕ) → says (row n (not (eqb a b))) ≡ none → a ≡ b
row_equal n a b e = eqb-true a b (not-false (eqb a b) (row_silent n (not (eqb a b)) e))

-- A row's number is the answer of what the row says.
said_number : (r : Row) (o : Outcome) → says r ≡ some o → number_of r ≡ o.answer
said_number (row n true) o e = let same : outcome n 0 ≡ o = cc in ap (λ (x : Outcome). x.answer) same
said_number (row n false) o e = let z : ◌≡◌ {A = ℕ} 0 1 = cc in absurd (omega arith)
said_number (row_at n (some d)) o e = let same : outcome n d ≡ o = cc in ap (λ (x : Outcome). x.answer) same
said_number (row_at n none) o e = let z : ◌≡◌ {A = ℕ} 0 1 = cc in absurd (omega arith)
said_number (row_found n (some (found k v))) o e = let same : outcome_at n k v ≡ o = cc in ap (λ (x : Outcome). x.answer) same
said_number (row_found n none) o e = let z : ◌≡◌ {A = ℕ} 0 1 = cc in absurd (omega arith)

-- A refusal's number is that of one of the rows: what holds of every row's number holds of it.
pub first_number : (P : ℕ → Type 0) (rows : List Row) (n : ℕ) (b p : List ℕ) (o : Outcome) → All (λ (r : Row). P (number_of r)) rows
    → first rows (done n b p) ≡ refused o → P o.answer
first_number P [] n b p o a e = let z : ◌≡◌ {A = ℕ} 0 1 = cc in absurd (omega arith)
first_number P (r ∷ rows) n b p o a e = go (heard r) (first_number P rows n b p o a.1)
  where
    go : Heard r → (first rows (done n b p) ≡ refused o → P o.answer) → P o.answer
    go (nothing q) i = i (rw q at e)
    go (something x q) i =
        let same : refused x ≡ refused o = rw q at e in
        let said : says r ≡ some o = cc in
        subst P (said_number r o said) a.0

-- A row that does not answer n: it says nothing, or has another number.
abbrev pub Without : ℕ → Row → Type 0
Without n r = (says r ≡ none) ⊎ (number_of r ≡ n → ⊥)

-- Rows none of which answers n give another answer.
pub never_answered : (n : ℕ) → (0 ≡ n → ⊥) → (rows : List Row) → All (Without n) rows → (o : ℕ) (b p : List ℕ) → answer_of (first rows (done o b p)) ≡ n → ⊥
never_answered n z [] a o b p e = z e
never_answered n z (r ∷ rows) a o b p e = go (heard r) (never_answered n z rows a.1 o b p)
  where
    go : Heard r → (answer_of (first rows (done o b p)) ≡ n → ⊥) → ⊥
    go (nothing q) i = i (rw q at e)
    go (something x q) i =
        let given : x.answer ≡ n = rw q at e in
        ⊎_elim (λ (silent : says r ≡ none). let f : ◌≡◌ {A = ℕ} 0 1 = cc in omega arith) (λ (other : number_of r ≡ n → ⊥). other (said_number r x q ∙ given)) a.0

-- The numbers of refusals: 0 is not among them, nor is 14.
abbrev pub IsRefusal : ℕ → Type 0
IsRefusal n = (1 ≤ n) × (n ≡ 14 → ⊥)

-- Every row is numbered as a refusal.
abbrev pub Refusals : List Row → Type 0
Refusals rows = All (λ (r : Row). IsRefusal (number_of r)) rows

-- So are rows and the rows that follow.
pub both_refusals : (rows more : List Row) → Refusals rows → Refusals more → Refusals (rows ++ more)
both_refusals rows more a b = all_append (λ (r : Row). IsRefusal (number_of r)) rows more a b

-- Rows that give answer 0, none of them numbered 0, say nothing.
pub zero_silent : (rows : List Row) (v : Verdict) → Refusals rows → answer_of (first rows v) ≡ 0 → Silent rows
zero_silent [] v a e = tt
zero_silent (r ∷ rows) v a e = go (heard r) (zero_silent rows v a.1)
  where
    go : Heard r → (answer_of (first rows v) ≡ 0 → Silent rows) → Silent (r ∷ rows)
    go (nothing q) i = (q, i (rw q at e))
    go (something o q) i = let z : o.answer ≡ 0 = rw q at e in absurd (omega (arith, a.0, said_number r o q ∙ z))

-- So rows that are answered 0 say nothing, and those that say nothing are answered 0 with detail 0.
pub answered_silent : (rows : List Row) → Refusals rows → (tested rows).answer ≡ 0 → Silent rows
answered_silent rows a e = zero_silent rows (done 0 [] []) a e

pub tested_passed : (rows : List Row) → Silent rows → tested rows ≡ outcome 0 0
tested_passed rows a = rw (first_passed rows (done 0 [] []) a)

-- Rows that refuse do so whatever rows follow.
pub stopped : (rows more : List Row) (v : Verdict) → ((tested rows).answer ≡ 0 → ⊥) → first (rows ++ more) v ≡ refused (tested rows)
stopped [] more v n = absurd (n refl)
stopped (r ∷ rows) more v n = go (heard r) (stopped rows more v)
  where
    go : Heard r → (((tested rows).answer ≡ 0 → ⊥) → first (rows ++ more) v ≡ refused (tested rows))
        → first (r ∷ (rows ++ more)) v ≡ refused (tested (r ∷ rows))
    go (nothing q) i = rw q (i (rw q at n))
    go (something o q) i = rw q

-- What rows come to by the answer they are given alone: what they refuse, or the verdict behind them.
pub first_stopped : (rows : List Row) (v : Verdict) → ((tested rows).answer ≡ 0 → ⊥) → first rows v ≡ refused (tested rows)
first_stopped rows v n = rw append-nil at (stopped rows [] v n)

pub first_zero : (rows : List Row) (v : Verdict) → Refusals rows → (tested rows).answer ≡ 0 → first rows v ≡ v
first_zero rows v a z = first_passed rows v (answered_silent rows a z)

-- The answer of rows is theirs whatever rows follow, or that of the rows that follow.
pub tested_stopped : (rows more : List Row) → ((tested rows).answer ≡ 0 → ⊥) → tested (rows ++ more) ≡ tested rows
tested_stopped rows more n = rw (stopped rows more (done 0 [] []) n)

pub tested_passed_on : (rows more : List Row) → Refusals rows → (tested rows).answer ≡ 0 → tested (rows ++ more) ≡ tested more
tested_passed_on rows more a z = rw (passed_over rows more (done 0 [] []) (answered_silent rows a z))

-- What rows come to with a detail, where they are left to a `done`.
pub decides : (rows : List Row) (detail : ℕ) (b p : List ℕ) (o : Outcome) → Refusals rows → o ≡ outcome_of (first rows (done detail b p)) → Decides rows detail o
decides rows detail b p o a e = record {
  refuses = λ r n. (
    (λ q. first_given rows detail b p r (by_answer (first rows (done detail b p)) r n (sym e ∙ q))),
    (λ f. e ∙ ap outcome_of (given_first rows (done detail b p) r f)),
  );
  is_done = (
    (λ z. zero_silent rows (done detail b p) a (sym (ap (λ (x : Outcome). x.answer) e) ∙ z)),
    (λ s. ap (λ (x : Outcome). x.answer) (e ∙ ap outcome_of (first_passed rows (done detail b p) s))),
  );
  with_detail = λ z.
      let s = zero_silent rows (done detail b p) a (sym (ap (λ (x : Outcome). x.answer) e) ∙ z) in
      e ∙ ap outcome_of (first_passed rows (done detail b p) s);
}
  where
    by_answer : (v : Verdict) (r : Outcome) → (r.answer ≡ 0 → ⊥) → outcome_of v ≡ r → v ≡ refused r
    by_answer (done d b p) r n q = absurd (n (sym (ap (λ (x : Outcome). x.answer) q)))
    by_answer (refused x) r n q = ap refused q

-- What they decide is done, or has a refusal's number.
pub decides_number : (rows : List Row) (detail : ℕ) (o : Outcome) → Refusals rows → Decides rows detail o → (o.answer ≡ 0 → ⊥) → IsRefusal o.answer
decides_number rows detail o a d n = first_number IsRefusal rows 0 [] [] o a (given_first rows (done 0 [] []) o ((d.refuses o n).0 refl))

-- They decide one outcome.
pub is_first : (rows : List Row) (detail : ℕ) (o : Outcome) → Refusals rows → Decides rows detail o → o ≡ outcome_of (first rows (done detail [] []))
is_first rows detail o a c = go (first rows (done detail [] [])) refl
  where
    go : (v : Verdict) → first rows (done detail [] []) ≡ v → o ≡ outcome_of v
    go (done x b p) q =
        let s = done_passed rows (done detail [] []) x b p q in
        c.with_detail (c.is_done.1 s.0) ∙ ap outcome_of s.1
    go (refused r) q =
        let number = first_number IsRefusal rows detail [] [] r a q in
        (c.refuses r (λ z. omega (arith, number))).1 (first_given rows detail [] [] r q)
