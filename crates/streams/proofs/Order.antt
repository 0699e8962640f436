-- Where reports in order start: all of them from the first place on, and those before another before it.
-- So what an F0H leaves behind it starts before that F0H.
use mathlib.Core.List.{List, [], ◌∷◌, ◌++◌}
use Prim.Native.Nat.{ℕ, ◌+◌, ◌≤◌, ◌<◌}
use native.Mathlib.Nat.{zero-add}
use native.Mathlib.Omega.{arith}
use lib.ListN.{length}
use Rattle.answers.specs.Lists.{All}
use Rattle.answers.specs.Table.{Verdict}
use Rattle.streams.specs.Stream.{Report, report}
use Rattle.streams.specs.code.Scan.{outside}
use Rattle.streams.specs.promises.Order.{InOrder}
use Rattle.streams.proofs.Scan.{ahead, scan_exclusive}
use Rattle.streams.proofs.Walk.{scan_order}

-- Reports in order from p on start at p or later.
pub order_from : (l : List Report) (q p n : ℕ) → q ≤ p → InOrder p n l → All (λ r. q ≤ r.start) l
order_from [] q p n h o = tt
order_from (r ∷ l) q p n h o = (omega arith, order_from l q r.end n (omega arith) o.3)

-- A report in a list in order starts behind those before it.
pub order_before : (l : List Report) (r : Report) (m : List Report) (p n : ℕ) → InOrder p n (l ++ r ∷ m) → All (λ q. q.start < r.start) l × (p ≤ r.start)
order_before [] r m p n o = (tt, o.0)
order_before (q ∷ l) r m p n o = let i = order_before l r m q.end n o.3 in ((omega arith, i.0), omega arith)

-- The reports that bytes complete before an F0H start before that F0H.
pub ahead_before : (judge : List ℕ → Verdict) (xs : List ℕ) → All (λ r. r.start < length xs) (ahead judge 0 outside xs)
ahead_before judge xs =
    let o = rw (scan_exclusive judge xs 0 outside []) at (scan_order judge (xs ++ 0xF0 ∷ []) 0) in
    rw (zero-add (length xs)) (rw (zero-add (length xs)) at (order_before (ahead judge 0 outside xs) (report (0 + length xs) _ _ _) [] 0 _ o).0)
