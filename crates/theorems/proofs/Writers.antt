-- A writer by its rows: it is done exactly when they say nothing and the message fits. What the rows say is what reading tests.
use mathlib.Core.Path.{◌≡◌}
use mathlib.Core.List.{List}
use Prim.Native.Nat.{ℕ, ◌≤◌}
use lib.ListN.{length}
use Rattle.answers.proofs.Effects.{written_done, written_fits}
use Rattle.answers.specs.promises.Decides.{Silent}
use Rattle.messages.specs.declared.kinds.Kind.{Kind}
use Rattle.messages.specs.Layout.{message, given_rows}
use Rattle.messages.proofs.Numbers.{given_refusals}
use Rattle.writing.specs.Writing.{writing}
use Rattle.theorems.specs.RoundTrips.{putting}

module _ (k : Kind) (b p : List ℕ) where
  -- Where the rows say nothing and the message fits, it is written.
  pub takes : (out : List ℕ) → Silent (given_rows k b p) → length (message k b p) ≤ length out → writing k b p out ≡ putting (message k b p) out
  takes out a h = written_fits (given_rows k b p) (message k b p) out a h

  -- Where it was written, they said nothing and it fitted.
  pub taken : (out : List ℕ) → (writing k b p out).result.answer ≡ 0 → Silent (given_rows k b p) × (length (message k b p) ≤ length out)
  taken out e = written_done (given_rows k b p) (message k b p) out (given_refusals k b p) e
