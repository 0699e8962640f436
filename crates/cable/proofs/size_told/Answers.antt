-- An accepted message's kind says how many, its opcode being a byte; what is refused has none.
use Rattle.std.proofs.Common.{ne_eqb, rules}
use native.Mathlib.Nat.{mod-eq_of_lt}
use Rattle.answers.specs.Refusals.{outcome_by}
use Rattle.answers.proofs.Refusals.{never_done}
use Rattle.cable.proofs.size_told.Goals as goal

pub returns-in-Ok : goal.returns-in-Ok
returns-in-Ok c =
    rw (c.packed_size.ensures, c.kind_of.ensures, c.in-Ok.is, mod-eq_of_lt {n = c.in-Ok.accepted.opcode} {m = 256} (search rules))

pub returns-in-Err : goal.returns-in-Err
returns-in-Err c =
    rw (c.in-Err.is, ne_eqb (outcome_by c.in-Err.field-0).answer 0 (never_done c.in-Err.field-0))
