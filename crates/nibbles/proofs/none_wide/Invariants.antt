-- The flag falls at a byte above 15: while it stands, the search over the whole is the search from the byte at hand on.
use Rattle.std.proofs.Common.{◌≡◌, drop, true}
use Rattle.nibbles.specs.Nibbles.{wide_from, first_wide}
use Rattle.nibbles.proofs.none_wide.Given as goal

abbrev pub invariant-loop-b : goal.invariant-loop-b
invariant-loop-b l = l.narrow ≡ true → first_wide l.sent ≡ wide_from l.b-index (drop l.b-index l.sent)
