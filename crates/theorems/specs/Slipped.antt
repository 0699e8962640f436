-- Document 02 (xiii): what the listing shows of a patch dump with slipped neighbours. It is one line, from the dump's F0H to behind its F7H.
use Rattle.std.specs.Prelude.{◌≡◌, List, [], ◌∷◌, ℕ, suc, ◌+◌, ◌-◌, ◌≤◌, ◌<◌, length, get_or}
use Rattle.answers.specs.declared.Outcome.{Outcome}
use Rattle.answers.specs.Table.{Verdict, refused}
use Rattle.streams.specs.Stream.{report}
use Rattle.messages.specs.promises.Neighbours.{replaced_refusal, exchanged_refusal}
use Rattle.theorems.specs.Damage.{replace_two, exchange, damaged, reports_of_dump, EveryPatchDump}

-- The damaged dump e in the place of d has one report, and comes to v.
abbrev pub OneLine : (before d e behind : List ℕ) → Verdict → Type 0
OneLine before d e behind v = reports_of_dump before e behind ≡ report (length before) (length before + length d) v 0 ∷ []

-- It is refused by o.
abbrev pub Shows : (before d e behind : List ℕ) → Outcome → Type 0
Shows before d e behind o = OneLine before d e behind (refused o)

-- The dump d between any bytes.
pub record Slips (before d behind : List ℕ) : Type 0 where
  -- two unequal neighbours among the data and the checksum exchanged
  pub exchanged : (i : ℕ) → 5 ≤ i → suc i < 274 → let a = get_or d i 0 in let b = get_or d (suc i) 0 in (a ≡ b → ⊥)
      → Shows before d (damaged (exchange i) d) behind (exchanged_refusal (i - 5) b)
  -- two neighbouring data bytes, the two nibbles of one packed byte among them, replaced by values below 80H, not both by themselves
  pub replaced : (i y z : ℕ) → 5 ≤ i → suc i < 273 → y < 0x80 → z < 0x80 → let a = get_or d i 0 in let b = get_or d (suc i) 0 in (y ≡ a → z ≡ b → ⊥)
      → Shows before d (damaged (replace_two i y z) d) behind (replaced_refusal (i - 5) (get_or d (i - 1) 0) a b y z)

abbrev pub SlippedNeighbours : Type 0
SlippedNeighbours = EveryPatchDump (λ d v. (before behind : List ℕ) → Slips before d behind)
