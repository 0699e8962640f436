use mathlib.Core.Path.{◌≡◌}
use mathlib.Core.List.{List, [], ◌∷◌, ◌++◌, append-nil}
use Prim.Native.Nat.{ℕ, ◌+◌, ◌≤◌, ◌<◌}
use native.Mathlib.Omega.{arith}
use native.Mathlib.Numerals.{add-one}
use lib.ListN.{length, get_or, take, drop, take-append-drop}
use lib.Seq.{take-suc, take-nil}
use Rattle.streams.specs.Bytes.{realTime, without_real_time}
use Rattle.streams.proofs.Bytes.{kind_is, stays}
use Rattle.streams.proofs.Complete.{without_append}
use Rattle.cable.proofs.Kept.{kept_more, kept_full}
use Rattle.cable.proofs.room.put_quiet.Goals.{then-b-le-END+else-out-n, else-b-le-END}
use Rattle.cable.proofs.room.put_quiet.Goals as goal

module _ (s : List ℕ) (i : ℕ) (h : i < length s) where
  dropped : 0xF7 < get_or s i 0 → without_real_time (take (i + 1) s) ≡ without_real_time (take i s)
  unfolding without_real_time
  dropped k = rw (add-one, take-suc s i 0 h, without_append) (simp (kind_is realTime _ k, append-nil))

  stored : get_or s i 0 ≤ 0xF7 → without_real_time (take (i + 1) s) ≡ without_real_time (take i s) ++ (get_or s i 0 ∷ [])
  unfolding without_real_time
  stored k = rw (add-one, take-suc s i 0 h, without_append) (simp (stays _ k))

pub loop-b-init : goal.loop-b-init
unfolding without_real_time
loop-b-init c =
    let e = take-nil {A = ℕ} (length c.args.out.now) in
    record { few = omega arith; kept = record { count = rw e; bytes = rw e } }

pub loop-b-preserved : goal.loop-b-preserved
loop-b-preserved c =
    let s = c.args.bytes.now in
    let i = c.loop-b.b-index in
    let h : i < length s = c.loop-b-test.true in
    let kept = c.loop-b.invariant.kept in
    elim c.if-b-le-END.branch [
      | then-b-le-END+else-out-n w ↦
          let e = stored s i h w.if-b-le-END.true in
          let k = kept_more _ _ _ _ kept (get_or s i 0) (omega arith) in
          record { few = omega arith; kept = rw (w.out-is, w.n-is, e) k }
      | else-b-le-END w ↦
          let e = dropped s i h (omega arith) in
          record { few = omega arith; kept = rw (w.out-is, w.n-is, e) kept }
    ]

-- Full: what stands behind changes nothing.
pub returns-then-out-n : goal.returns-then-out-n
returns-then-out-n c =
    let s = c.args.bytes.now in
    let i = c.loop-b.b-index in
    let k = kept_full _ _ _ _ c.loop-b.invariant.kept (without_real_time (drop i s)) (omega arith) in
    rw (← (without_append (take i s) (drop i s)), take-append-drop i s) at k
