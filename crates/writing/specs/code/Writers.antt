-- What the writer of a dump and the test of a bank give, as the code has them.
use Rattle.std.specs.Prelude.{List, ℕ, Result, Ok, Err, ⊤}
use Rattle.answers.specs.declared.Outcome.{Outcome}
use Rattle.answers.specs.declared.Placed.{Placed}
use Rattle.answers.specs.declared.Refusal.{Refusal}
use Rattle.answers.specs.Table.{outcome}
use Rattle.answers.specs.Effect.{Effect, written, placed, no_place}
use Rattle.answers.specs.Refusals.{outcome_by}
use Rattle.messages.specs.declared.kinds.Dump.{Dump}
use Rattle.messages.specs.Layout.{dump, dump_given}
use Rattle.writing.specs.declared.BankRefusal.{BankRefusal}

-- A dump by its description and the byte behind its opcode.
abbrev pub writing_dump : Dump → ℕ → List ℕ → List ℕ → Effect Outcome
writing_dump k n p out = written (dump_given k n p) (dump k.opcode n p) out

-- The refusal of a bank, with a place.
abbrev pub refused_bank : Refusal → ℕ → BankRefusal
refused_bank r k = record { refusal = r; place = k }

-- What a bank comes to: done with the detail that f gives of what is answered, or refused with the place.
abbrev pub told_bank_by : {A : Type 0} → (A → ℕ) → Result A BankRefusal → Placed
told_bank_by f (Ok a) = no_place (outcome 0 (f a))
told_bank_by f (Err b) = placed (outcome_by b.refusal) b.place

-- Done with the bytes written as detail; the test of its patches with detail 0.
abbrev pub told_bank : Result ℕ BankRefusal → Placed
told_bank r = told_bank_by (λ d. d) r

abbrev pub told_patches : Result ⊤ BankRefusal → Placed
told_patches r = told_bank_by (λ u. 0) r
