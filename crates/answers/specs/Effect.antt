-- What a routine with a lent buffer gives: its result, and the buffer's bytes afterwards.
use Rattle.std.specs.Prelude.{◌≡◌, List, [], ◌∷◌, ◌++◌, ℕ, ltb, length, drop}
use Rattle.std.proofs.Math.Option.{Option, none, some}
use Rattle.answers.specs.declared.Outcome.{Outcome}
use Rattle.answers.specs.declared.Placed.{Placed}
use Rattle.answers.specs.Table.{Row, row, Verdict, done, refused, first, outcome, outcome_of}

-- The answer of rows to which nothing else is added: refused by the first that holds, else done with detail 0.
abbrev pub tested : List Row → Outcome
tested rows = outcome_of (first rows (done 0 [] []))

-- A result and the lent bytes after the call.
pub record Effect (R : Type 0) : Type 0 where
  pub result : R
  pub lent : List ℕ

-- The same lent bytes with what the result is told as.
abbrev pub told_as : {R S : Type 0} → (R → S) → Effect R → Effect S
told_as f e = record { result = f e.result; lent = e.lent }

-- A lent buffer that becomes new, with a detail, unless a row refuses: then it keeps every byte.
abbrev pub changed : ℕ → List ℕ → List ℕ → Verdict → Effect Outcome
changed detail new old (done o b p) = record { result = outcome 0 detail; lent = new }
changed detail new old (refused o) = record { result = o; lent = old }

-- Bytes at the start of a lent output, the bytes behind them kept.
abbrev pub at_start : List ℕ → List ℕ → List ℕ
at_start bytes out = bytes ++ drop (length bytes) out

-- Bytes written there: refused by the first row that holds, and last by 13 where the output is too short.
abbrev pub written : List Row → List ℕ → List ℕ → Effect Outcome
written rows bytes out =
    changed (length bytes) (at_start bytes out) out
    (first (rows ++ (row 13 (ltb (length out) (length bytes)) ∷ [])) (done 0 [] []))

-- An outcome, and the place of what it refuses; 0 where it is about no place.
abbrev pub placed : Outcome → ℕ → Placed
placed o k = record { outcome = o; place = k }

abbrev pub no_place : Outcome → Placed
no_place o = placed o 0

-- What is tested at place k where it is refused, else what is found later.
abbrev pub or_later : ℕ → Verdict → Option Placed → Option Placed
or_later k (refused o) later = some (placed o k)
or_later k (done o b p) later = later

-- A refusal at a place keeps every byte of a lent buffer; without one it is left to the effect e.
abbrev pub unless_placed : Option Placed → List ℕ → Effect Placed → Effect Placed
unless_placed none lent e = e
unless_placed (some r) lent e = record { result = r; lent = lent }

-- What a call gave is the effect e.
pub record Gives {R : Type 0} (e : Effect R) (r : R) (after : List ℕ) : Type 0 where
  pub result : r ≡ e.result
  pub lent : after ≡ e.lent
