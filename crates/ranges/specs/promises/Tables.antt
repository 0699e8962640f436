-- What our tables keep, each as a whole; what the search for a byte out of range finds, and what the test of bytes by a table answers.
use Rattle.std.specs.Prelude.{◌≡◌, ℕ, ◌+◌, ◌-◌, ◌<◌, ◌≤◌, Bool, true, false, ◌↔◌, List, length, ℤ, ◌≢◌, int_le, slice_index}
use Rattle.std.proofs.Math.Option.{none, some}
use Rattle.answers.specs.Effect.{tested}
use Rattle.answers.specs.Table.{found, outcome, outcome_at}
use Rattle.ranges.specs.Ranges.{Table, place_in, least_in, greatest_in, in_row, value_in, out_from, counted_rows}
use Rattle.ranges.specs.Values.{plus, minus, from_to}

pub record TableRule (t : Table) : Type 0 where
  -- Each place stands once, at its own row; least and greatest values are bytes.
  pub place : (k : ℕ) → k < length t → place_in t k ≡ k
  pub bytes : (k : ℕ) → (least_in t k < 256) × (greatest_in t k < 256)
  -- No least value is above the greatest; a byte is in range exactly when its value lies between the two, and what is in range is a byte.
  pub ordered : (k : ℕ) → k < length t → int_le (value_in t k (least_in t k)) (value_in t k (greatest_in t k)) ≡ true
  pub with_sign : (k b : ℕ) → k < length t → b < 256 → in_row t k b ≡ from_to (value_in t k (least_in t k)) (value_in t k (greatest_in t k)) (value_in t k b)
  pub accepted : (k b : ℕ) → in_row t k b ≡ true → b < 256

-- The values of a place go from one to another.
abbrev pub Goes : Table → ℕ → ℤ → ℤ → Type 0
Goes t k least greatest = (value_in t k (least_in t k) ≡ least) × (value_in t k (greatest_in t k) ≡ greatest)

-- The value of every byte at the places of a table, in range or not (02 (vi)): at those that have a sign it is -128..127, at the others the byte itself.
pub record Signs (t : Table) (signed : ℕ → Bool) : Type 0 where
  pub from_zero : (k n : ℕ) → k < length t → signed k ≡ true → n < 128 → value_in t k n ≡ plus n
  pub below_zero : (k n : ℕ) → k < length t → signed k ≡ true → 1 ≤ n → n ≤ 128 → value_in t k (256 - n) ≡ minus n
  pub without_sign : (k b : ℕ) → k < length t → signed k ≡ false → value_in t k b ≡ plus b

-- No range has both a byte and the one 128 higher: what the sum misses of one nibble that is replaced, the table sees.
abbrev pub Apart : Table → Type 0
Apart t = (k b : ℕ) → k < length t → in_row t k b ≡ true → in_row t k (b + 128) ≢ true

-- The place j is the lowest out of range, and v the value of its byte.
pub record Lowest (t : Table) (k : ℕ) (p : List ℕ) (j : ℕ) (v : ℤ) : Type 0 where
  pub from : k ≤ j
  pub below : j < k + length p
  pub out : in_row t j (slice_index p (j - k)) ≡ false
  pub before : (i : ℕ) → k ≤ i → i < j → in_row t i (slice_index p (i - k)) ≡ true
  pub value : v ≡ value_in t j (slice_index p (j - k))

-- What the search finds among bytes p the first of which stands at place k: the lowest place out of range, and the value of the byte there;
-- nothing where every byte is in range.
pub record LowestOut (t : Table) (k : ℕ) (p : List ℕ) : Type 0 where
  pub some_out : (j : ℕ) (v : ℤ) → out_from t k p ≡ some (found j v) → Lowest t k p j v
  pub none_out : out_from t k p ≡ none → (i : ℕ) → k ≤ i → i < k + length p → in_row t i (slice_index p (i - k)) ≡ true

-- The test of n bytes by a table: another count is 7; they pass exactly when each is in its range; 11 tells exactly the lowest that is not, and its value.
pub record TestedBy (n : ℕ) (t : Table) : Type 0 where
  pub another_count : (p : List ℕ) → (length p ≢ n) → tested (counted_rows n (some t) p) ≡ outcome 7 0
  pub passes : (p : List ℕ) → length p ≡ n → (tested (counted_rows n (some t) p) ≡ outcome 0 0) ↔ ((k : ℕ) → k < n → in_row t k (slice_index p k) ≡ true)
  pub refuses : (p : List ℕ) → length p ≡ n → (j : ℕ) (v : ℤ) → (tested (counted_rows n (some t) p) ≡ outcome_at 11 j v) ↔ Lowest t 0 p j v
