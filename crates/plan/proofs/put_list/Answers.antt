-- The planner writes the list, since the pair passes its tests and no list is longer than the room: so what is put is the list.
use Rattle.std.proofs.Common.{◌≡◌, ◌≤◌, refl, sym, ap, List, ℕ, length, take, drop, length-append, arith}
use Rattle.std.specs.Prelude.{Result, Ok, Err}
use lib.Seq.{length-take-le, take_at}
use Rattle.answers.specs.declared.Outcome.{Outcome}
use Rattle.answers.specs.declared.Refusal.{Refusal}
use Rattle.answers.specs.Table.{outcome}
use Rattle.answers.specs.Effect.{tested, at_start, Gives}
use Rattle.answers.specs.Refusals.{told}
use Rattle.answers.proofs.Rows.{answered_silent}
use Rattle.answers.proofs.Refusals.{never_done}
use Rattle.answers.proofs.Effects.{written_fits}
use Rattle.pairs.specs.Pairs.{pair_rows}
use Rattle.pairs.proofs.Pair.{pair_refusals}
use Rattle.edit_lists.specs.Lists.{list_bytes}
use Rattle.edit_lists.specs.Plan.{plan, planning}
use Rattle.edit_lists.proofs.Left.{list_most}
use Rattle.plan.proofs.put_list.Goals.{In-Ok}
use Rattle.plan.proofs.put_list.Goals as goal

module _ (a b out after : List ℕ) (z : (tested (pair_rows a b)).answer ≡ 0) (l : length out ≡ 762) where
  abbrev list : List ℕ
  list = list_bytes (plan a b)

  fits : (r : Result ℕ Refusal) → Gives (planning a b out) (told r) after → (told r ≡ outcome 0 (length list)) × (after ≡ at_start list out)
  unfolding planning
  fits r g =
      let silent = answered_silent (pair_rows a b) (pair_refusals a b) z in
      let w = rw (written_fits (pair_rows a b) list out silent (omega (arith, list_most a b))) at g in
      (w.result, w.lent)

  -- The first n bytes of what the planner leaves are the list.
  listed : (n : ℕ) → Gives (planning a b out) (told (Ok n)) after → (n ≤ length after) × (take n after ≡ list)
  listed n g =
      let w = fits (Ok n) g in
      let e : n ≡ length list = ap (λ (o : Outcome). o.detail) w.0 in
      rw (e, w.1) (simp length-append (omega arith), take_at list (drop (length list) out) (length list) refl)

  never_refused : (x : Refusal) → Gives (planning a b out) (told (Err x)) after → ⊥
  never_refused x g = never_done x (ap (λ (o : Outcome). o.answer) (fits (Err x) g).0)

-- At the planner's answer.
here : (i : In-Ok) → (i.in-Ok.size ≤ length i.plan.new.out) × (take i.in-Ok.size i.plan.new.out ≡ list_bytes (plan i.args.a.now i.args.b.now))
here i = listed i.args.a.now i.args.b.now _ i.plan.new.out i.requires refl i.in-Ok.size i.in-Ok.ensures

pub slice_bounds-list-end : goal.slice_bounds-list-end
slice_bounds-list-end c = (here (goal.at.slice_bounds-list-end c).In-Ok).0

pub slice_bounds-put-end : goal.slice_bounds-put-end
slice_bounds-put-end c = sym (length-take-le _ _ (here (goal.at.slice_bounds-put-end c).In-Ok).0)

pub returns-in-Ok : goal.returns-in-Ok
returns-in-Ok c = rw (here (goal.at.returns-in-Ok c).In-Ok).1 at c.put.ensures

pub returns-in_default : goal.returns-in_default
returns-in_default c =
    let said = rw c.in_default.is at c.plan.ensures in
    absurd (never_refused c.args.a.now c.args.b.now _ c.plan.new.out c.requires refl c.in_default.field-0 said)
