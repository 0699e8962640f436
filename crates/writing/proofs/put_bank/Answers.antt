use mathlib.Core.Path.{◌≡◌, refl, ◌∙◌}
use mathlib.Core.List.{List, ◌++◌}
use Prim.Native.Nat.{ℕ, ◌+◌, ◌-◌, ◌*◌, ◌≤◌}
use native.Mathlib.Omega.{arith}
use lib.ListN.{length, take, drop}
use borrow.Rule.Slice.PartMut.{put_mid, same_len_mid}
use Rattle.answers.specs.Effect.{at_start}
use Rattle.answers.proofs.Lists.{then_part}
use Rattle.messages.specs.Layout.{dump}
use Rattle.writing.specs.Writing.{bank_from}
use Rattle.writing.proofs.Laws.{patch_in, length_patch, length_patch_dump, length_bank, bank_more}
use Rattle.writing.proofs.put_bank.Goals as goal

-- One dump more.
step : (ps o xs ys p : List ℕ) (k : ℕ) → (k + 1) * 134 ≤ length ps → (k + 1) * 275 ≤ length o → xs ≡ bank_from k 0 ps ++ drop (k * 275) o
    → p ≡ take 134 (drop (k * 134) ps) → ys ≡ at_start (dump 0x01 k p) (take (length xs - k * 275) (drop (k * 275) xs))
    → put_mid (k * 275) (length xs - k * 275) xs ys ≡ bank_from (k + 1) 0 ps ++ drop ((k + 1) * 275) o
step ps o xs ys p k hp ho ex ep ey =
    let patch = take 134 (drop (k * 134) ps) in
    let l = length_patch_dump 0x01 k patch (length_patch ps k (omega arith)) in
    let more : k * 275 + 275 ≡ (k + 1) * 275 = omega arith in
    let number : k + 0 ≡ k = omega arith in
    then_part (bank_from k 0 ps) (dump 0x01 k patch) o xs ys (k * 275) 275 (length_bank k 0 ps (omega arith)) l (omega arith) ex (rw (ep, l) at ey)
    ∙ rw (more, bank_more k 0 ps, number)

pub loop-k-init : goal.loop-k-init
unfolding bank_from
loop-k-init c = (refl, refl)

pub loop-k-preserved : goal.loop-k-preserved
loop-k-preserved c =
    let ps = c.args.ps.now in
    let at = c.loop-k in
    let new = c.put_dump.new.out in
    let here = patch_in ps c.as_chunks.result.0.now at.k c.as_chunks.ensures.front c.loop-k-test.true in
    let count = c.as_chunks.ensures.front_len in (
      same_len_mid (at.k * 275) (length at.out - at.k * 275) at.out new c.put_dump.auto.out ∙ at.invariant.0,
      step ps c.args.out.now at.out new _ at.k (omega (arith, count)) (omega (arith, count, c.requires)) at.invariant.1 here c.put_dump.ensures,
    )
