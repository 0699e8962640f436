-- Test after test, in the order of the definition.
use Rattle.std.proofs.Common.{◌≡◌, refl, sym, ap, ◌∙◌, true, false, List, ℕ}
use lib.Dec.{eqb}
use borrow.Author.Tests.{not-true, not-false}
use Rattle.plan.specs.Files.{Found, is_patch_dump, patch_in, found_in}
use Rattle.plan.specs.code.Written.{told}
use Rattle.plan.proofs.Files.{too_long, no_message, first_told, second_told, by_quiet}
use Rattle.plan.proofs.find_patch.Goals.{Else-not-is_found, Else-not-is_patch_dump, Else-is_found}
use Rattle.plan.proofs.find_patch.Goals.{then-not-only_real_time-via-then-not-only_real_time}
use Rattle.plan.proofs.find_patch.Goals.{then-not-only_real_time-via-else-not-only_real_time+then-not-only_real_time-2}
use Rattle.plan.proofs.find_patch.Goals as goal

-- What is told where this is found.
so : (s : List ℕ) {f : Found} → found_in s ≡ f → told (patch_in s) f ≡ told (patch_in s) (found_in s)
so s e = ap (told (patch_in s)) (sym e)

pub returns-then-s-gt-MOST : goal.returns-then-s-gt-MOST
returns-then-s-gt-MOST c = so c.args.s.now (too_long c.args.s.now c.if-s-gt-MOST.true)

pub returns-then-not-is_found : goal.returns-then-not-is_found
returns-then-not-is_found c =
    let s = c.args.s.now in
    let w = c.walk-first in
    so s (no_message s c.if-s-gt-MOST.false w.result w.ensures (not-false _ (sym c.is_found.ensures ∙ c.if-not-is_found.true)))

-- There is a first message.
first_there : (i : Else-not-is_found) → eqb i.walk-first.result.outcome.answer 1 ≡ false
first_there i = not-true _ (sym i.is_found.ensures ∙ i.if-not-is_found.false)

pub returns-then-not-is_patch_dump : goal.returns-then-not-is_patch_dump
returns-then-not-is_patch_dump c =
    let s = c.args.s.now in
    let w = c.walk-first in
    let there = first_there (goal.at.returns-then-not-is_patch_dump c).Else-not-is_found in
    so s (first_told s c.if-s-gt-MOST.false w.result w.ensures there (sym c.is_patch_dump.ensures ∙ c.if-not-is_patch_dump.true))

-- It is an accepted patch dump.
dump : (i : Else-not-is_patch_dump) → is_patch_dump i.walk-first.result.outcome ≡ true
dump i = sym i.is_patch_dump.ensures ∙ i.if-not-is_patch_dump.false

-- There is no second one.
no_second : (i : Else-is_found) → eqb i.walk-next.result.outcome.answer 1 ≡ true
no_second i = not-false _ (sym i.is_found-2.ensures ∙ i.if-is_found.false)

pub returns-then-is_found : goal.returns-then-is_found
returns-then-is_found c =
    let s = c.args.s.now in
    let w = c.walk-first in
    let n = c.walk-next in
    let l = goal.at.returns-then-is_found c in
    let second = not-true _ (sym c.is_found-2.ensures ∙ c.if-is_found.true) in
    so s
    (second_told s c.if-s-gt-MOST.false w.result w.ensures (first_there l.Else-not-is_found) (dump l.Else-not-is_patch_dump) n.result n.ensures second)

-- It is the only message: what stands outside decides.
pub returns-then-not-only_real_time : goal.returns-then-not-only_real_time
returns-then-not-only_real_time c =
    let s = c.args.s.now in
    let w = c.walk-first in
    let n = c.walk-next in
    let l = goal.at.returns-then-not-only_real_time c in
    let by =
    by_quiet s c.if-s-gt-MOST.false w.result w.ensures (first_there l.Else-not-is_found) (dump l.Else-not-is_patch_dump) n.result n.ensures
    (no_second l.Else-is_found) in
    so s
    (elim c.then-not-only_real_time.branch [
      | then-not-only_real_time-via-then-not-only_real_time u ↦
          by false _ (sym c.only_real_time.ensures ∙ u.if-not-only_real_time.true) refl
      | then-not-only_real_time-via-else-not-only_real_time+then-not-only_real_time-2 u ↦
          by true false (sym c.only_real_time.ensures ∙ u.if-not-only_real_time.false)
          (sym u.only_real_time-else-not-only_real_time.ensures ∙ u.if-not-only_real_time-2.true)
    ])

pub returns : goal.returns
returns c =
    let s = c.args.s.now in
    let w = c.walk-first in
    let n = c.walk-next in
    let l = goal.at.returns c in
    let one =
    by_quiet s c.if-s-gt-MOST.false w.result w.ensures (first_there l.Else-not-is_found) (dump l.Else-not-is_patch_dump) n.result n.ensures
    (no_second l.Else-is_found) true true (sym c.only_real_time.ensures ∙ c.if-not-only_real_time.false)
    (sym c.only_real_time-else-not-only_real_time.ensures ∙ c.if-not-only_real_time-2.false) in
    rw c.patch_in.ensures (so s one)
