-- What holds of every element of a list, and elements by their places.
use Rattle.std.specs.Prelude.{List, [], ◌∷◌, ℕ, zero, suc, get_or}

abbrev pub All {ℓ} : {A : Type ℓ} → (A → Type 0) → List A → Type 0
All P [] = Unit {0}
All P (x ∷ xs) = P x × All P xs

-- So many bytes from place i on.
abbrev pub bytes_from : ℕ → ℕ → List ℕ → List ℕ
bytes_from zero i m = []
bytes_from (suc n) i m = get_or m i 0 ∷ bytes_from n (suc i) m
