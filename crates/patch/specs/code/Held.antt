-- What the code answers of a parameter in a patch, as it is told.
use Rattle.std.specs.Prelude.{ℤ, Result, Ok, Err}
use Rattle.answers.specs.declared.Refusal.{Refusal}
use Rattle.answers.specs.Table.{outcome}
use Rattle.answers.specs.Refusals.{outcome_by}
use Rattle.patch.specs.Patch.{held, not_held}
use Rattle.patch.specs.declared.Held.{Held}

abbrev pub told_held : Result ℤ Refusal → Held
told_held (Ok v) = held (outcome 0 0) v
told_held (Err r) = not_held (outcome_by r)
