-- One dump of any kind: its opening and number, its nibbles in the part behind, the sum and F7H in the part behind those.
-- Each part comes back as what was written before it, then its own bytes, then the output's old ones.
use mathlib.Core.Path.{◌≡◌, refl, ap, ◌∙◌}
use mathlib.Core.List.{List, [], ◌∷◌, ◌++◌}
use Prim.Native.Nat.{ℕ, ◌+◌, ◌-◌, ◌*◌, ◌≤◌}
use native.Mathlib.Omega.{arith}
use lib.ListN.{length, take, drop, set, length-append, length-take, length-drop, length-set}
use borrow.Rule.Slice.PartMut.{put_mid}
use Rattle.answers.specs.declared.Outcome.{Outcome}
use Rattle.answers.specs.Effect.{Effect}
use Rattle.answers.proofs.Lists.{put_next, then_part}
use Rattle.nibbles.specs.Nibbles.{nibbles, sum}
use Rattle.nibbles.proofs.Laws.{length_nibbles, unpacking_done}
use Rattle.writing.proofs.Laws.{length_dump, dump_parts}
use Rattle.writing.proofs.put_dump.Goals.{After-unpack_into}
use Rattle.writing.proofs.put_dump.Goals as goal

abbrev opening : After-unpack_into → List ℕ
opening u = 0xF0 ∷ 0x10 ∷ 0x06 ∷ u.args.opcode ∷ []

abbrev head : After-unpack_into → List ℕ
head u = opening u ++ (u.args.number ∷ [])

abbrev after_number : After-unpack_into → List ℕ
after_number u = set u.put_opening.new.out 4 u.args.number

abbrev after_nibbles : After-unpack_into → List ℕ
after_nibbles u = let xs = after_number u in put_mid 5 (length xs - 5) xs u.unpack_into.new.out

-- The opening and the number are written.
numbered : (u : After-unpack_into) → after_number u ≡ head u ++ drop 5 u.args.out.now
numbered u =
    ap (λ (l : List ℕ). set l 4 u.args.number) u.put_opening.ensures
    ∙ put_next (opening u) u.args.out.now 4 u.args.number refl (omega (arith, u.requires))

-- Then the nibbles.
unpacked : (u : After-unpack_into) → after_nibbles u ≡ (head u ++ nibbles u.args.packed.now) ++ drop (5 + 2 * length u.args.packed.now) u.args.out.now
unpacked u =
    let p = u.args.packed.now in
    let xs = after_number u in
    let long : length xs ≡ length u.args.out.now = length-set u.put_opening.new.out 4 u.args.number ∙ u.put_opening.auto.out in
    let room : 2 * length p ≤ length (take (length xs - 5) (drop 5 xs)) = simp (length-take, length-drop) (omega (arith, long, u.requires)) in
    let written = u.unpack_into.ensures.lent ∙ ap (λ (e : Effect Outcome). e.lent) (unpacking_done p (take (length xs - 5) (drop 5 xs)) room) in
    then_part (head u) (nibbles p) u.args.out.now xs u.unpack_into.new.out 5 (2 * length p) refl (length_nibbles p) (omega (arith, u.requires)) (numbered u)
    written

pub returns : goal.returns
returns c =
    let s = (goal.at.returns c).After-unpack_into in
    let p = c.args.packed.now in
    let end = 5 + 2 * length p in
    let la : length (head s ++ nibbles p) ≡ end = omega (arith, length-append (head s) (nibbles p), length_nibbles p) in
    let more : end + 2 ≡ 2 * length p + 7 = omega arith in
    then_part (head s ++ nibbles p) (sum p ∷ 0xF7 ∷ []) c.args.out.now (after_nibbles s) c.put_closing.new.out end 2 la refl (omega (arith, c.requires))
    (unpacked s) c.put_closing.ensures
    ∙ rw (length_dump, dump_parts, more)
