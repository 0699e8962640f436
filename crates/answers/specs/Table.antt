-- The form of document 01's table of answers: numbered conditions in order, the first that holds decides.
use Rattle.std.specs.Prelude.{Bool, true, false, List, [], ◌∷◌, ℕ, ℤ, pos, get_or}
use Rattle.std.proofs.Math.Option.{Option, none, some}
use Rattle.answers.specs.declared.Outcome.{Outcome}

-- An answer, its detail, and a value with its sign.
abbrev pub outcome_at : ℕ → ℕ → ℤ → Outcome
outcome_at a d v = record { answer = a; detail = d; value = v }

-- An answer and its detail. The value is 0 with every answer but 11 (02 (vi)).
abbrev pub outcome : ℕ → ℕ → Outcome
outcome a d = outcome_at a d (pos 0)

-- A place, and the value that was found there.
pub data Found : Type 0 where
  found : (place : ℕ) (value : ℤ) → Found

-- A row of the table: a number and its condition. The detail is 0, or where the condition is first met, or that with the value found there.
pub data Row : Type 0 where
  row : (number : ℕ) (holds : Bool) → Row
  row_at : (number : ℕ) (where-met : Option ℕ) → Row
  row_found : (number : ℕ) (met : Option Found) → Row

abbrev pub number_of : Row → ℕ
number_of (row n h) = n
number_of (row_at n o) = n
number_of (row_found n o) = n

-- What a row says of the message at hand: its number, detail and value where its condition holds.
abbrev pub says : Row → Option Outcome
says (row n true) = some (outcome n 0)
says (row n false) = none
says (row_at n (some d)) = some (outcome n d)
says (row_at n none) = none
says (row_found n (some (found k v))) = some (outcome_at n k v)
says (row_found n none) = none

-- What a message comes to: done, with its opcode, the bytes that come with the answer and a dump's packed bytes; or refused.
pub data Verdict : Type 0 where
  done : (opcode : ℕ) (bytes packed : List ℕ) → Verdict
  refused : (by : Outcome) → Verdict

abbrev pub unless : Option Outcome → Verdict → Verdict
unless none v = v
unless (some o) v = refused o

-- The first row that holds gives its number, detail and value; where none holds, the verdict v.
abbrev pub first : List Row → Verdict → Verdict
first [] v = v
first (r ∷ rows) v = unless (says r) (first rows v)

-- The answer, detail and value of a verdict: when reading, the detail of a done message is its opcode.
abbrev pub outcome_of : Verdict → Outcome
outcome_of (done o b p) = outcome 0 o
outcome_of (refused o) = o

abbrev pub answer_of : Verdict → ℕ
answer_of v = (outcome_of v).answer

-- The bytes that come with an answer, as four: zero behind the last.
abbrev pub four : List ℕ → List ℕ
four b = get_or b 0 0 ∷ get_or b 1 0 ∷ get_or b 2 0 ∷ get_or b 3 0 ∷ []
