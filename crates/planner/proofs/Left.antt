-- The pass over the parts in which two patches differ: what is left behind a part, and behind the last.
use Rattle.std.proofs.Common.{◌≡◌, ℕ, ◌+◌, ◌<◌, ◌≤◌, true, false, List, [], ◌∷◌, arith}
use Rattle.edit_lists.specs.Plan.{width_of, same_at, differing}
use Rattle.edit_lists.specs.code.Left.{IsPart, Stands, parts_left}
use Rattle.edit_lists.proofs.Parts.{differing_same, differing_other}
use Rattle.edit_lists.proofs.Left.{left_next, left_none}

pub is_part : (k : ℕ) → Stands k → k < 134 → IsPart k
is_part k s h = (s.0, h, s.2)

module _ (a b : List ℕ) (k : ℕ) where
  pub passed_over : IsPart k → same_at k a b ≡ true → differing (parts_left k) a b ≡ differing (parts_left (k + width_of k)) a b
  passed_over p t = rw (left_next k p) (differing_same k (parts_left (k + width_of k)) a b t)

  pub yielded : IsPart k → same_at k a b ≡ false → differing (parts_left k) a b ≡ k ∷ differing (parts_left (k + width_of k)) a b
  yielded p t = rw (left_next k p) (differing_other k (parts_left (k + width_of k)) a b t)

  pub none_left : Stands k → 134 ≤ k → differing (parts_left k) a b ≡ []
  unfolding differing
  none_left s h = let e : k ≡ 134 = omega (arith, s.1) in rw (e, left_none)
