-- A search for a wide byte that has passed every byte before i.
use Rattle.std.proofs.Common.{◌≡◌, ℕ, ◌+◌, ◌*◌, ◌/◌, ◌%◌, ◌<◌, ◌≤◌, List, length, get_or, drop, add-one, arith, drop_of_length-le, drop-cons}
use mathlib.Core.Option.{none}
use Rattle.nibbles.specs.Nibbles.{wide_from}
use Rattle.nibbles.proofs.Laws.{wide_next}

-- One byte more that is not wide.
pub wide_passed : (s : List ℕ) (i : ℕ) → i < length s → get_or s i 0 ≤ 15 → wide_from i (drop i s) ≡ wide_from (i + 1) (drop (i + 1) s)
wide_passed s i h e = rw (drop-cons s i 0 h, add-one) (wide_next i _ _ e)

-- Behind the last byte there is none.
pub wide_end : (s : List ℕ) (i : ℕ) → length s ≤ i → wide_from i (drop i s) ≡ none
unfolding wide_from
wide_end s i h = rw (drop_of_length-le s h)

-- A pair of nibbles as one word, its upper nibble brought down to the lower.
pub word_packed : (low high : ℕ) → low < 16 → high < 16 → ((low + 256 * high) + (low + 256 * high) / 16) % 256 ≡ low + 16 * high
word_packed low high l h = let down : (low + 256 * high) / 16 ≡ 16 * high = omega arith in rw down (omega arith)
