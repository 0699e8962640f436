-- What holds of the reports of every stream: they are those of the two states, they stand in order, and each is found again from its start.
use Rattle.std.specs.Prelude.{◌≡◌, List, [], ◌∷◌, ℕ, ◌≤◌, ◌<◌, length, drop}
use Rattle.std.proofs.Math.Option.{some}
use Rattle.answers.specs.Lists.{All}
use Rattle.answers.specs.Table.{Verdict}
use Rattle.streams.specs.Stream.{Report, walk, reports_from, reports}
use Rattle.streams.specs.code.Scan.{outside, scan}

-- The reports of a list start at place p or later, in order, each with bytes of its own, and end within n bytes.
abbrev pub InOrder : ℕ → ℕ → List Report → Type 0
InOrder p n [] = Unit {0}
InOrder p n (r ∷ l) = (p ≤ r.start) × (r.start < r.end) × (r.end ≤ n) × InOrder r.end n l

pub record ReportsOf (judge : List ℕ → Verdict) (s : List ℕ) : Type 0 where
  -- from any place the two states make the very reports of the walk, from 0 on those of the stream
  pub by_states : (p : ℕ) → reports_from judge (length s) s p ≡ scan judge p outside (drop p s)
  -- every end is past its start; starts and ends stand in order and within the input
  pub in_order : InOrder 0 (length s) (reports judge s)
  -- the walk from the start of a report gives that report
  pub found_again : All (λ r. walk judge s r.start ≡ some r) (reports judge s)
