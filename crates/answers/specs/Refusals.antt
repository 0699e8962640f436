-- Why a call is refused, in the register's numbers.
use Rattle.std.specs.Prelude.{ℕ, Result, Ok, Err, ⊤}
use Rattle.answers.specs.declared.Outcome.{Outcome}
use Rattle.answers.specs.declared.Refusal.{Refusal}
use Rattle.answers.specs.declared.Refusal.TheVariants.{NoMessage, Cut, Interrupted, OtherMaker, OtherDevice, OtherOpcode, WrongLength, NotAllowed}
use Rattle.answers.specs.declared.Refusal.TheVariants.{WideData, WrongSum, OutOfRange, HalfUsed, NoRoom, OtherForm, OtherName, NotAccepted, TooMany}
use Rattle.answers.specs.Table.{outcome, outcome_at}

-- The number of each, with its detail and, with 11, the value that was found. 14 is withdrawn.
abbrev pub outcome_by : Refusal → Outcome
outcome_by NoMessage = outcome 1 0
outcome_by Cut = outcome 2 0
outcome_by Interrupted = outcome 3 0
outcome_by OtherMaker = outcome 4 0
outcome_by OtherDevice = outcome 5 0
outcome_by OtherOpcode = outcome 6 0
outcome_by WrongLength = outcome 7 0
outcome_by NotAllowed = outcome 8 0
outcome_by (WideData i) = outcome 9 i
outcome_by WrongSum = outcome 10 0
outcome_by (OutOfRange f) = outcome_at 11 f.place f.value
outcome_by (HalfUsed b) = outcome 12 b
outcome_by NoRoom = outcome 13 0
outcome_by OtherForm = outcome 15 0
outcome_by OtherName = outcome 16 0
outcome_by NotAccepted = outcome 20 0
outcome_by TooMany = outcome 21 0

-- What a call comes to: done with the detail that f gives of what it answers, or refused.
abbrev pub told_by : {A : Type 0} → (A → ℕ) → Result A Refusal → Outcome
told_by f (Ok a) = outcome 0 (f a)
told_by f (Err r) = outcome_by r

-- Done with what it answers as detail; a test with detail 0.
abbrev pub told : Result ℕ Refusal → Outcome
told r = told_by (λ d. d) r

abbrev pub told_test : Result ⊤ Refusal → Outcome
told_test r = told_by (λ u. 0) r
