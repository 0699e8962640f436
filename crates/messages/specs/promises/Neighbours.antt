-- Which refusal a patch dump gets for two neighbours among its data bytes and its checksum that are other data bytes than it was written with:
-- 9 with its index, 10, or 11 with its place and value, by the place and the bytes. The index j is that of the first of the two; data bytes count
-- from 0, as in the detail of 9.
use Rattle.std.specs.Prelude.{Bool, ◌&&◌, ◌||◌, cond, ℕ, suc, ◌+◌, ◌*◌, ◌/◌, ◌%◌, eqb, ltb}
use Rattle.answers.specs.declared.Outcome.{Outcome}
use Rattle.answers.specs.Table.{outcome, outcome_at}
use Rattle.fields.specs.Fields.{value_at}

abbrev pub moved_by8 : ℕ → ℕ → Bool
moved_by8 h h' = eqb h' (h + 8) || eqb h (h' + 8)

-- A low nibble l and a high nibble h that are now the nibbles l' and h', not both the same. The sum misses only a high one moved by 8: the packed
-- byte k that it belongs to moved by 128, out of its range. Its low nibble is `low`, and its value is told.
abbrev pub nibbles_refusal : (k low l h l' h' : ℕ) → Outcome
nibbles_refusal k low l h l' h' = cond (eqb l' l && moved_by8 h h') (outcome_at 11 k (value_at k (low + 16 * h'))) (outcome 10 0)

-- The data bytes a and b replaced by y and z. A low nibble has an even index, a high one an odd index; the low nibble before it is `low`.
abbrev pub replaced_refusal : (j low a b y z : ℕ) → Outcome
replaced_refusal j low a b y z =
    cond (ltb 15 y) (outcome 9 j)
    (cond (ltb 15 z) (outcome 9 (suc j))
    (cond (eqb (j % 2) 0) (nibbles_refusal (j / 2) a a b y z) (nibbles_refusal (j / 2) low b a z y)))

-- Exchanged, so that the second of them, b, is now the first. Above 15 it is the checksum, in the place of the last nibble.
abbrev pub exchanged_refusal : (j b : ℕ) → Outcome
exchanged_refusal j b = cond (ltb 15 b) (outcome 9 j) (outcome 10 0)
