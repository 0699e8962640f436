-- A refusal is never told as done; a test that is told as its rows are answered has passed them, or is the first of them that says anything.
use Rattle.std.proofs.Common.{◌≡◌, List, sym, ap, arith}
use Rattle.std.specs.Prelude.{ℕ}
use Rattle.answers.specs.declared.Outcome.{Outcome}
use Rattle.answers.specs.declared.Refusal.{Refusal}
use Rattle.answers.specs.declared.Refusal.TheVariants.{NoMessage, Cut, Interrupted, OtherMaker, OtherDevice, OtherOpcode, WrongLength, NotAllowed}
use Rattle.answers.specs.declared.Refusal.TheVariants.{WideData, WrongSum, OutOfRange, HalfUsed, NoRoom, OtherForm, OtherName, NotAccepted, TooMany}
use Rattle.answers.specs.Table.{Row, outcome}
use Rattle.answers.specs.Effect.{tested}
use Rattle.answers.specs.Refusals.{outcome_by}
use Rattle.answers.specs.promises.Decides.{Silent}
use Rattle.answers.proofs.Rows.{Refusals, answered_silent}

pub never_done : (r : Refusal) → (outcome_by r).answer ≡ 0 → ⊥
never_done NoMessage e = omega arith
never_done Cut e = omega arith
never_done Interrupted e = omega arith
never_done OtherMaker e = omega arith
never_done OtherDevice e = omega arith
never_done OtherOpcode e = omega arith
never_done WrongLength e = omega arith
never_done NotAllowed e = omega arith
never_done (WideData i) e = omega arith
never_done WrongSum e = omega arith
never_done (OutOfRange f) e = omega arith
never_done (HalfUsed b) e = omega arith
never_done NoRoom e = omega arith
never_done OtherForm e = omega arith
never_done OtherName e = omega arith
never_done NotAccepted e = omega arith
never_done TooMany e = omega arith

-- Rows that are answered by `done` say nothing.
pub done_silent : (rows : List Row) (d : ℕ) → Refusals rows → outcome 0 d ≡ tested rows → Silent rows
done_silent rows d a e = answered_silent rows a (sym (ap (λ (o : Outcome). o.answer) e))
