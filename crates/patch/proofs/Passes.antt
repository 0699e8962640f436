-- Passes over the bytes of a patch, byte by byte: what a flag that stays clear has shown so far, and what it has shown at the end.
use Rattle.std.proofs.Common.{◌≡◌, ℕ, zero, suc, ◌+◌, ◌-◌, ◌*◌, ◌%◌, ◌<◌, false, List, length, get_or, refl, ◌∙◌, arith, below_more}
use mathlib.Core.Option.{none}
use Rattle.ranges.specs.code.Passes.{InRows}
use Rattle.ranges.proofs.Passes.{rows_in}
use Rattle.fields.specs.Fields.{fields}
use Rattle.patch.specs.Patch.{first_out, half_used, half_from, first_half}
use Rattle.patch.proofs.Steps.{bus_whole, buses_done}

-- Where every byte of a patch lies in its range, none is out of range.
pub all_in : (p : List ℕ) → length p ≡ 134 → InRows fields 0 134 p → first_out p ≡ none
all_in p e h = rows_in fields p (rw e h)

-- Of the n bytes from 104 on, those that are a source stand before a bus that is not half used.
abbrev pub Whole : ℕ → List ℕ → Type 0
Whole n p = (j : ℕ) → j < n → j % 3 ≡ 0 → half_used (get_or p (104 + j) 0) (get_or p (106 + j) 0) ≡ false

pub whole_more : (p : List ℕ) (j : ℕ) → Whole j p → (j % 3 ≡ 0 → half_used (get_or p (104 + j) 0) (get_or p (106 + j) 0) ≡ false) → Whole (j + 1) p
whole_more p j h e = below_more (λ (i : ℕ). i % 3 ≡ 0 → half_used (get_or p (104 + i) 0) (get_or p (106 + i) 0) ≡ false) j h e

half_none : (p : List ℕ) (n b : ℕ) → b + n ≡ 10 → Whole 28 p → half_from (10 - b) b p ≡ none
half_none p zero b e h = buses_done p b (omega arith)
half_none p (suc n) b e h =
    bus_whole p b (omega arith) (h (3 * b) (omega arith) (omega arith)) ∙ half_none p n (b + 1) (omega arith) h

-- Where no source of the ten stands before a bus half used, none is half used.
pub all_whole : (p : List ℕ) → Whole 28 p → first_half p ≡ none
all_whole p h = half_none p 10 0 refl h
