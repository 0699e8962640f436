-- Two patches of which one is to be turned into the other: when bytes are the same, and the tests of both.
use Rattle.std.specs.Prelude.{Bool, true, false, not, ◌&&◌, List, [], ◌∷◌, ◌++◌, ℕ, eqb, take}
use Rattle.answers.specs.Table.{Row, row}
use Rattle.patch.specs.Patch.{patch_rows}

-- Bytes are the same: as many, and each the same.
unfoldable pub same_bytes : List ℕ → List ℕ → Bool
same_bytes [] [] = true
same_bytes [] (y ∷ b) = false
same_bytes (x ∷ a) [] = false
same_bytes (x ∷ a) (y ∷ b) = eqb x y && same_bytes a b

-- The name is a patch's first eight bytes.
abbrev pub name_of : List ℕ → List ℕ
name_of p = take 8 p

-- Both patches are tested first, a before b: 7, 11, 12. Then 16 where the names differ, since no edit reaches a name.
abbrev pub pair_rows : List ℕ → List ℕ → List Row
pair_rows a b = patch_rows a ++ (patch_rows b ++ (row 16 (not (same_bytes (name_of a) (name_of b))) ∷ []))
