-- What holds of nibbles: packing and unpacking undo each other, and 9 names the first data byte above 15.
use Rattle.std.specs.Prelude.{◌≡◌, ℕ, ◌%◌, ◌<◌, ◌↔◌, List, length, take, slice_index}
use Rattle.std.proofs.Math.Option.{none, some}
use Rattle.answers.specs.Lists.{All}
use Rattle.nibbles.specs.Nibbles.{nibbles, pack, sum, first_wide}

-- A data byte above 15 stands at index i, and none before it.
pub record FirstWideAt (ns : List ℕ) (i : ℕ) : Type 0 where
  pub within : i < length ns
  pub wide : 15 < slice_index ns i
  pub narrow_before : All (λ b. b < 16) (take i ns)

pub record Inverse : Type 0 where
  pub packed_again : (bytes : List ℕ) → pack (nibbles bytes) ≡ bytes
  pub sent_again : (ns : List ℕ) → length ns % 2 ≡ 0 → All (λ b. b < 16) ns → nibbles (pack ns) ≡ ns
  pub narrow : (bytes : List ℕ) → All (λ b. b < 256) bytes → All (λ b. b < 16) (nibbles bytes)
  pub sum_below : (bytes : List ℕ) → sum bytes < 128
  pub first_is_wide : (ns : List ℕ) (i : ℕ) → (first_wide ns ≡ some i) ↔ FirstWideAt ns i
  pub none_wide : (ns : List ℕ) → (first_wide ns ≡ none) ↔ All (λ b. b < 16) ns
