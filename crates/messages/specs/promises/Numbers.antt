-- The numbers of a refused message.
use Rattle.std.specs.Prelude.{◌≡◌, List, ℕ, ◌≤◌}
use Rattle.answers.specs.declared.Outcome.{Outcome}
use Rattle.answers.specs.Table.{refused}
use Rattle.messages.specs.Judge.{judge}

-- 4 to 12.
abbrev pub InTable : ℕ → Type 0
InTable n = (4 ≤ n) × (n ≤ 12)

abbrev pub RefusedNumbers : Type 0
RefusedNumbers = (m : List ℕ) (r : Outcome) → judge m ≡ refused r → InTable r.answer
