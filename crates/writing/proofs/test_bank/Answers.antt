use mathlib.Core.Path.{◌≡◌, ap, sym, ◌∙◌}
use mathlib.Core.List.{List, []}
use mathlib.Core.Option.{none}
use Prim.Native.Nat.{ℕ, ◌+◌, ◌-◌, ◌*◌, ◌/◌, ◌<◌}
use native.Mathlib.Omega.{arith}
use lib.ListN.{length, get_or, take, drop}
use lib.Seq.{drop-drop}
use Rattle.std.specs.Simd.{first_chunks}
use Rattle.answers.specs.declared.Outcome.{Outcome}
use Rattle.answers.specs.Table.{outcome}
use Rattle.answers.specs.Effect.{tested, placed}
use Rattle.answers.specs.code.Found.{found_or}
use Rattle.answers.proofs.Refusals.{never_done}
use Rattle.patch.specs.Patch.{field_rows, patch_rows}
use Rattle.patch.proofs.Tests.{fields_tested}
use Rattle.writing.specs.Writing.{first_bad}
use Rattle.writing.proofs.Laws.{patch_in, length_patch, bad_here, bad_next}
use Rattle.writing.proofs.test_bank.Goals as goal

-- The patch numbered k is tested; those before it have passed.
module _ (ps : List ℕ) (patches : List (List ℕ)) (k : ℕ) (front : patches ≡ first_chunks 134 (length ps / 134) ps)
    (count : length patches ≡ length ps / 134) (within : k < length patches) where
  abbrev left : List ℕ
  left = drop (k * 134) ps

  abbrev Left : ℕ → Type 0
  Left k = first_bad (length ps / 134) 0 ps ≡ first_bad (length ps / 134 - k) k (drop (k * 134) ps)

  answered : (o : Outcome) → o ≡ tested (patch_rows (get_or patches k [])) → o ≡ tested (field_rows (take 134 left))
  answered o q = (rw (patch_in ps patches k front within) at q) ∙ fields_tested (take 134 left) (length_patch ps k (omega arith))

  from_here : Left k → first_bad (length ps / 134) 0 ps ≡ first_bad (length ps / 134 - (k + 1) + 1) k left
  from_here l = let one : length ps / 134 - k ≡ length ps / 134 - (k + 1) + 1 = omega arith in l ∙ ap (λ (m : ℕ). first_bad m k left) one

  -- It is the lowest bad one, or leaves it to those behind it.
  stopped : Left k → (o : Outcome) → o ≡ tested (patch_rows (get_or patches k [])) → (o.answer ≡ 0 → ⊥)
      → placed o k ≡ found_or (first_bad (length ps / 134) 0 ps)
  stopped l o q n =
      let e = answered o q in
      let here = bad_here (length ps / 134 - (k + 1)) k left (λ z. n (ap (λ (o : Outcome). o.answer) e ∙ z)) in
      ap (λ (o : Outcome). placed o k) e ∙ sym (ap found_or (from_here l ∙ here))

  passed : Left k → outcome 0 0 ≡ tested (patch_rows (get_or patches k [])) → Left (k + 1)
  passed l q =
      let more : k * 134 + 134 ≡ (k + 1) * 134 = omega arith in
      let next = bad_next (length ps / 134 - (k + 1)) k left (sym (ap (λ (o : Outcome). o.answer) (answered (outcome 0 0) q))) in
      from_here l ∙ next ∙ rw (drop-drop 134 (k * 134) ps, more)

pub returns-in-Err : goal.returns-in-Err
returns-in-Err c =
    let all = c.as_chunks in
    stopped c.args.ps.now all.result.0.now c.loop-place.place all.ensures.front all.ensures.front_len c.loop-place-test.true
    c.loop-place.invariant _ c.in-Err.ensures (never_done c.in-Err.refusal)

pub loop-place-preserved : goal.loop-place-preserved
loop-place-preserved c =
    let all = c.as_chunks in
    passed c.args.ps.now all.result.0.now c.loop-place.place all.ensures.front all.ensures.front_len c.loop-place-test.true
    c.loop-place.invariant c.in_default.ensures

pub returns : goal.returns
unfolding first_bad
returns c =
    let ps = c.args.ps.now in
    let k = c.loop-place.place in
    let end : length ps / 134 - k ≡ 0 = omega (arith, c.as_chunks.ensures.front_len) in
    let none_left : first_bad (length ps / 134 - k) k (drop (k * 134) ps) ≡ none = rw end in
    sym (ap found_or (c.loop-place.invariant ∙ none_left))
