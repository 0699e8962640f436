-- What a search in code found is what its definition finds.
use Rattle.std.proofs.Common.{◌≡◌, ℕ, Bool, true, false, not, ◌&&◌, eqb, List, [], ◌∷◌, length, refl, arith}
use Rattle.std.specs.Prelude.{Some, None}
use mathlib.Core.Option.{Option, none, some}
use Rattle.answers.specs.declared.Found.{Found as FoundThere}
use Rattle.answers.specs.Table.{row, row_found, Found, found, outcome}
use Rattle.answers.specs.Effect.{tested}
use Rattle.ranges.specs.Ranges.{Table, out_from, counted_rows}
use Rattle.ranges.specs.code.Found.{found_at, found_in}
use Rattle.ranges.specs.code.Passes.{nothing, all_in}

pub found_some : (o : Option ℕ) (k : ℕ) → Some k ≡ found_at o → o ≡ some k
found_some (some j) k e = cc
found_some none k e = cc

pub found_none : (o : Option ℕ) → None ≡ found_at o → o ≡ none
found_none (some j) e = cc
found_none none e = refl

-- The same of a search that tells the value found.
pub found_value : (o : Option Found) (f : FoundThere) → Some f ≡ found_in o → o ≡ some (found f.place f.value)
found_value (some (found k v)) f e = let same : f ≡ record { place = k; value = v } = cc in rw same
found_value none f e = cc

pub found_no_value : (o : Option Found) → None ≡ found_in o → o ≡ none
found_no_value (some (found k v)) e = cc
found_no_value none e = refl

-- So many bytes, none of them out of range, pass.
pub all_pass : (n : ℕ) (t : Table) (p : List ℕ) → all_in n t p ≡ true → outcome 0 0 ≡ tested (counted_rows n (some t) p)
all_pass n t p a = go (eqb (length p) n) (out_from t 0 p) a
  where
    go : (c : Bool) (o : Option Found) → (c && nothing o) ≡ true → outcome 0 0 ≡ tested (row 7 (not c) ∷ row_found 11 o ∷ [])
    go true none e = refl
    go true (some f) e = let z : ◌≡◌ {A = ℕ} 0 1 = cc in absurd (omega arith)
    go false o e = let z : ◌≡◌ {A = ℕ} 0 1 = cc in absurd (omega arith)
