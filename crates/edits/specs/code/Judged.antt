-- What came of the tests of an edit that makes a patch p into `edited p`: the first that refuses it, or the bytes that it stores.
use Rattle.std.specs.Prelude.{◌≡◌, List, ℕ, Result, IfOk}
use Rattle.std.proofs.Math.Seq.{sets}
use Rattle.answers.specs.declared.Refusal.{Refusal}
use Rattle.answers.specs.Table.{Row}
use Rattle.answers.specs.Effect.{tested}
use Rattle.answers.specs.Refusals.{told_by}
use Rattle.edits.specs.declared.change.Change.{Change}

pub record Judged {N : ℕ} (rows : List Row) (edited : List ℕ → List ℕ) (r : Result (Change N) Refusal) : Type 0 where
  pub told : told_by (λ c. 0) r ≡ tested rows
  pub stores : IfOk r (λ c. (p : List ℕ) → sets p c.at c.bytes ≡ edited p)
