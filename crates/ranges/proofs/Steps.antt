-- The search for a byte out of range, a turn at a time: each is a step of its definition's recursion.
use Rattle.std.proofs.Common.{◌≡◌, ℕ, ◌+◌, ◌<◌, ◌≤◌, true, false, List, length, get_or, drop, add-one, drop_of_length-le, drop-cons}
use mathlib.Core.Option.{none, some}
use Rattle.answers.specs.Table.{found}
use Rattle.ranges.specs.Ranges.{Table, in_row, value_in, out_from}

module _ (t : Table) (p : List ℕ) (k : ℕ) where
  pub byte_in : k < length p → in_row t k (get_or p k 0) ≡ true → out_from t k (drop k p) ≡ out_from t (k + 1) (drop (k + 1) p)
  unfolding out_from
  byte_in h e = rw (drop-cons p k 0 h) (simp (e, add-one))

  pub byte_out : k < length p → in_row t k (get_or p k 0) ≡ false → out_from t k (drop k p) ≡ some (found k (value_in t k (get_or p k 0)))
  unfolding out_from
  byte_out h e = rw (drop-cons p k 0 h) (simp e)

  pub bytes_done : length p ≤ k → out_from t k (drop k p) ≡ none
  unfolding out_from
  bytes_done h = rw (drop_of_length-le p h)
