use Rattle.std.proofs.Common.{◌≡◌, ◌∙◌, ◌+◌, ◌-◌, ◌≤◌, ◌++◌, sym, ap, arith, length, [], refl, append-nil, length-take, length-drop}
use borrow.Rule.Slice.PartMut.{same_len_mid}
use Rattle.edit_lists.specs.Lists.{message_for, list_bytes}
use Rattle.edit_lists.specs.Plan.{reaching, plan}
use Rattle.edit_lists.specs.code.Left.{length_at}
use Rattle.edit_lists.proofs.Left.{message_length}
use Rattle.planner.specs.code.Parts.{left}
use Rattle.planner.proofs.Edits.{edits_for, all_edits, no_edits, first_edit, first_length}
use Rattle.planner.proofs.Writing.{counted, one_more}
use Rattle.planner.proofs.put_list.Goals.{In-Some}
use Rattle.planner.proofs.put_list.Goals as goal

next_first : (i : In-Some) → edits_for i.args.b.now (left i.loop-part.part-iterator)
    ≡ message_for (reaching i.args.b.now i.in-Some.part.place) ++ edits_for i.args.b.now (left i.next.new.self)
next_first i = rw i.in-Some.ensures.steps (first_edit _ _ _)

longer : (i : In-Some) → length (edits_for i.args.b.now (left i.loop-part.part-iterator))
    ≡ length_at i.in-Some.part.place + length (edits_for i.args.b.now (left i.next.new.self))
longer i = rw i.in-Some.ensures.steps (first_length _ _ _ i.in-Some.part.begins)

-- There is room for its message.
room : (i : In-Some) → i.loop-part.at + length_at i.in-Some.part.place ≤ length i.loop-part.out
room i = omega (arith, longer i, counted i.loop-part.invariant.3)

pub loop-part-init : goal.loop-part-init
loop-part-init c =
    let all = all_edits c.args.a.now c.args.b.now in
    let start = c.into_iter-part-iterator.ensures.into_iter_gives in
    (tt, tt, refl, record { written = []; split = rw (start, c.of-part-items.ensures, all) refl; size = refl; put = refl })

pub put_edit-requires : goal.put_edit-requires
put_edit-requires c = simp (length-take, length-drop) (omega (arith, room (goal.at.put_edit-requires c).In-Some))

pub loop-part-preserved : goal.loop-part-preserved
loop-part-preserved c =
    let i = (goal.at.loop-part-preserved c).In-Some in
    let l = c.loop-part in
    let k = c.in-Some.part in
    let p = c.put_edit in
    let m = message_length c.args.b.now k.place k.begins ∙ sym c.message_length-at.ensures in (
      tt,
      tt,
      same_len_mid l.at (length l.out - l.at) l.out p.new.out p.auto.out ∙ l.invariant.2,
      one_more (message_for (reaching c.args.b.now k.place)) _ l.invariant.3 (next_first i) m (omega (arith, room i)) p.ensures,
    )

pub returns : goal.returns
returns c =
    let w = c.loop-part.invariant.3 in
    let b = c.args.b.now in
    let none = ap (edits_for b) c.in-None.ensures.steps.0 ∙ no_edits b in
    let all : list_bytes (plan c.args.a.now b) ≡ w.written = w.split ∙ rw (none, append-nil) refl in
    w.put ∙ rw (all, w.size) refl
