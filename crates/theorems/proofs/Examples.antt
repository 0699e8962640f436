-- A patch of which demand 3 and the slipped neighbours speak.
use mathlib.Core.Path.{◌≡◌, refl}
use mathlib.Core.List.{List, [], ◌∷◌}
use Prim.Native.Nat.{ℕ}
use native.Mathlib.Omega.{arith}
use Rattle.answers.specs.Table.{refused, outcome}
use Rattle.answers.specs.Effect.{tested}
use Rattle.streams.specs.Stream.{report}
use Rattle.nibbles.specs.Nibbles.{nibbles, total, sum}
use Rattle.fields.specs.Fields.{fields}
use Rattle.ranges.specs.Ranges.{between, in_row, out_from}
use Rattle.patch.specs.Patch.{half_used, half_from}
use Rattle.messages.specs.declared.kinds.Kind.TheVariants.{Dump as of_dump}
use Rattle.messages.specs.Kinds.{single_patch, Filed, kind_of}
use Rattle.messages.specs.Layout.{dump, message, record_for, given_rows}
use Rattle.theorems.specs.Examples.{P}
use Rattle.theorems.specs.Damage.{Damage, lose, replace_two, exchange, damaged, Allowed, Contained, reports_of_dump}
use Rattle.theorems.proofs.Damage.{demand_3, slipped_neighbours}

taken : tested (given_rows (of_dump single_patch) (0 ∷ []) P) ≡ outcome 0 0
unfolding out_from half_from half_used in_row between fields
taken = refl

filed : Filed (of_dump single_patch)
unfolding kind_of
filed = refl

-- P as number 0, its dump.
abbrev sent : List ℕ
sent = message (of_dump single_patch) (0 ∷ []) P

-- Demand 3 at three cases, the same dump behind: the first data byte lost, the nibbles of byte 76 replaced, the last nibble and the checksum exchanged.
abbrev at_case : Damage → Type 0
at_case x = Contained [] sent (damaged x sent) sent (record_for (of_dump single_patch) (0 ∷ []) P)

case : (x : Damage) → Allowed x sent → at_case x
case = demand_3 single_patch filed refl (0 ∷ []) P refl taken [] sent

pub damage_examples : at_case (lose 5) × at_case (replace_two 157 9 8) × at_case (exchange 272)
unfolding dump nibbles sum total
damage_examples = (
  case (lose 5) (omega arith),
  case (replace_two 157 9 8) (omega arith, omega arith, (λ e f. omega arith), (λ e f. omega arith)),
  case (exchange 272) (omega arith, omega arith, (λ e. omega arith)),
)

-- What is shown of the last: the checksum is 1.
pub slip_example : reports_of_dump [] (damaged (exchange 272) sent) sent ≡ report 0 275 (refused (outcome 10 0)) 0 ∷ []
unfolding dump nibbles sum total
slip_example =
    (slipped_neighbours single_patch filed refl (0 ∷ []) P refl taken [] sent).exchanged 272 (omega arith) (omega arith) (λ e. omega arith)
