-- A message's content among its real time: which bytes of its body it is, where each stands, and what packing a dump's data leaves.
use Rattle.std.specs.Prelude.{◌≡◌, Option as Maybe, cond, List, [], ◌∷◌, ℕ, ◌+◌, ◌*◌, ◌-◌, ◌<◌, ◌≤◌, eqb, length, take, drop, get_or}
use Rattle.std.proofs.Math.Option.{none}
use Rattle.answers.specs.declared.Outcome.{Outcome}
use Rattle.answers.specs.Table.{row_at}
use Rattle.answers.specs.Effect.{tested}
use Rattle.ranges.specs.code.Found.{found_at}
use Rattle.streams.specs.Bytes.{without_real_time}
use Rattle.nibbles.specs.Nibbles.{pack, first_wide}

-- The content of a body by how many bytes it has: as it stands where it has them all.
abbrev pub content_by : ℕ → List ℕ → List ℕ
content_by count b = cond (eqb count (length b)) b (without_real_time b)

-- Byte i of what is left of a body without its real time stands at place r, and the others behind it.
pub record StandsAt (b : List ℕ) (i r : ℕ) : Type 0 where
  pub within : r < length b
  pub onward : drop i (without_real_time b) ≡ get_or b r 0 ∷ without_real_time (drop (r + 1) b)

-- The first four bytes of a body are none of them real time.
pub record FrontQuiet (b : List ℕ) : Type 0 where
  pub four : 4 ≤ length b
  pub quiet : (i : ℕ) → i < 4 → get_or b i 0 ≤ 0xF7

-- The last byte of what is left of a body without its real time stands at place r.
pub record LastAt (b : List ℕ) (r : ℕ) : Type 0 where
  pub within : r < length b
  pub last : get_or (without_real_time b) (length (without_real_time b) - 1) 0 ≡ get_or b r 0

-- A dump's data bytes and its sum, from the content.
abbrev pub sent_in : ℕ → List ℕ → List ℕ
sent_in size c = take (2 * size) (drop 4 c)

abbrev pub sum_in : ℕ → List ℕ → ℕ
sum_in size c = get_or c (4 + 2 * size) 0

-- What packing a dump's data d finds and leaves: the first byte above 15, or the packed bytes.
pub record PacksTo (d after : List ℕ) (r : Maybe ℕ) : Type 0 where
  pub first : r ≡ found_at (first_wide d)
  pub packed : first_wide d ≡ none → after ≡ pack d

-- The same as it is told: 9 with the first byte above 15, or the packed bytes.
pub record Gathers (d after : List ℕ) (r : Outcome) : Type 0 where
  pub told : r ≡ tested (row_at 9 (first_wide d) ∷ [])
  pub packed : first_wide d ≡ none → after ≡ pack d
