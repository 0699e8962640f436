-- What each writer leaves in a lent output, and a bank.
use Rattle.std.specs.Prelude.{cond, not, ◌||◌, List, [], ◌++◌, ℕ, zero, suc, ◌*◌, ◌/◌, ◌%◌, eqb, ltb, length, take, drop}
use Rattle.std.proofs.Math.Option.{Option, none}
use Rattle.answers.specs.declared.Outcome.{Outcome}
use Rattle.answers.specs.declared.Placed.{Placed}
use Rattle.answers.specs.Table.{done, first, outcome}
use Rattle.answers.specs.Effect.{Effect, told_as, written, no_place, or_later, unless_placed}
use Rattle.fields.specs.Fields.{size}
use Rattle.patch.specs.Patch.{field_rows}
use Rattle.messages.specs.declared.kinds.Kind.{Kind}
use Rattle.messages.specs.Kinds.{single_patch}
use Rattle.messages.specs.Layout.{dump, message, given_rows}

-- A message of a kind, from the bytes b that come with the answer and a dump's packed bytes p: its tests, then 13.
abbrev pub writing : Kind → List ℕ → List ℕ → List ℕ → Effect Outcome
writing k b p out = written (given_rows k b p) (message k b p) out

-- n patches end to end as dumps, numbered from k.
unfoldable pub bank_from : ℕ → ℕ → List ℕ → List ℕ
bank_from zero k ps = []
bank_from (suc n) k ps = dump single_patch.opcode k (take size ps) ++ bank_from n (suc k) (drop size ps)

abbrev pub bank_bytes : List ℕ → List ℕ
bank_bytes ps = bank_from (length ps / size) 0 ps

-- The lowest bad one of n patches numbered from k: its own 11 or 12 with detail and value, its number as place.
unfoldable pub first_bad : ℕ → ℕ → List ℕ → Option Placed
first_bad zero k ps = none
first_bad (suc n) k ps = or_later k (first (field_rows (take size ps)) (done 0 [] [])) (first_bad n (suc k) (drop size ps))

-- The lowest bad patch refuses, else the bytes are written, or there is no room.
abbrev pub unless_bad : Option Placed → List ℕ → List ℕ → Effect Placed
unless_bad bad bytes out = unless_placed bad out (told_as no_place (written [] bytes out))

-- A bank has at most 100 patches.
abbrev pub bank_most : ℕ
bank_most = 100 * size

-- A bank of 0 to 100 patches numbered from 0: 7, then the lowest bad patch's 11 or 12, then 13.
unfoldable pub writing_bank : List ℕ → List ℕ → Effect Placed
writing_bank ps out =
    cond (not (eqb (length ps % size) 0) || ltb bank_most (length ps))
    (record { result = no_place (outcome 7 0); lent = out })
    (unless_bad (first_bad (length ps / size) 0 ps) (bank_bytes ps) out)
