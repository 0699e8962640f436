-- The edit that bytes begin with is stored, which in a patch that passes is applying it; or none is there.
use Rattle.std.proofs.Common.{◌≡◌, List, ℕ, ◌∷◌, [], ◌∙◌, sym, ap, take, drop, get_or, length, ◌+◌, ◌-◌, Bool, true, false, arith}
use Rattle.std.specs.Prelude.{None}
use Rattle.std.specs.Str.{bytes_eq}
use Rattle.std.proofs.lemmas.Bool.Decides.{not_from_Decides}
use Rattle.checker.specs.code.Steps.{Follows}
use Rattle.std.proofs.Math.Seq.{drop-drop}
use Rattle.std.proofs.lemmas.Slice.Eq.{bytes_eq-Decides}
use Rattle.answers.proofs.Lists.{to_end}
use Rattle.edits.specs.code.Storing.{Stored}
use Rattle.edits.proofs.Tests.{stored_applied, bus_stored_applied}
use Rattle.edit_lists.specs.Lists.{applied}
use Rattle.edit_lists.specs.Check.{first_edit}
use Rattle.edit_lists.proofs.Reach.{good_silent}
use Rattle.checker.proofs.Heads.{HasMessage, the_remote, the_matrix, first_remote, first_matrix, first_neither, first_short}
use Rattle.checker.proofs.Steps.{follows_stored, follows_none}
use Rattle.checker.proofs.follow.Goals.{In_ok-opening, After-store, After-store-then-eq-2}
use Rattle.checker.proofs.follow.Goals as goal

front : (i : In_ok-opening) → i.in_ok-opening.opening.now ≡ take 4 i.args.s.now
front i = i.in_ok-opening.ensures.cases.0

back : (i : In_ok-opening) → i.in_ok-opening.own.now ≡ drop 4 i.args.s.now
back i = i.in_ok-opening.ensures.cases.1

-- What is left behind the n bytes of the message that follow the first four.
behind_own : (n : ℕ) (s own : List ℕ) → own ≡ drop 4 s → take (length own - n) (drop n own) ≡ drop (4 + n) s
behind_own n s own e = to_end n own ∙ rw e (drop-drop n 4 s)

pub returns-in_err-opening : goal.returns-in_err-opening
returns-in_err-opening c =
    let s = c.args.s.now in
    rw c.from_residual.ensures (follows_none (first_edit s) c.args.p.now s (first_short s c.in_err-opening.ensures.cases))

opened : (r : Bool) (a b : List ℕ) → r ≡ bytes_eq a b → r ≡ true → a ≡ b
opened r a b e t = (bytes_eq-Decides a b).0 (sym e ∙ t)

other : (r : Bool) (a b : List ℕ) → r ≡ bytes_eq a b → r ≡ false → a ≡ b → ⊥
other r a b e t = not_from_Decides (bytes_eq a b) (bytes_eq-Decides a b) (sym e ∙ t)

-- One that begins as the one message does not begin as the other.
one_kind : (opening own : List ℕ) (m n : ℕ) → opening ≡ 240 ∷ 16 ∷ 6 ∷ m ∷ [] → (m ≡ n → ⊥) → (k : ℕ) → HasMessage n k opening own → ⊥
one_kind opening own m n e d k h = d (ap (λ (x : List ℕ). get_or x 3 0) (sym e ∙ h.opens))

remote_there : (e : After-store) → HasMessage 6 2 e.in_ok-opening.opening.now e.in_ok-opening.own.now
remote_there e = record { opens = opened _ _ _ e.eq.ensures e.if-eq.true; long = omega arith; end = omega arith }

matrix_there : (e : After-store-then-eq-2) → HasMessage 11 4 e.in_ok-opening.opening.now e.in_ok-opening.own.now
matrix_there e = record { opens = opened _ _ _ e.eq-2.ensures e.if-eq-2.true; long = omega arith; end = omega arith }

edited : (e : After-store) → Stored (applied (the_remote e.in_ok-opening.own.now) e.args.p.now) e.store.result e.store.new.p
edited e =
    let own = e.in_ok-opening.own.now in
    rw (← (stored_applied e.args.p.now (good_silent e.args.p.now e.requires) (get_or own 0 0) (get_or own 1 0))) e.store.ensures

bus_edited : (e : After-store-then-eq-2)
    → Stored (applied (the_matrix e.in_ok-opening.own.now) e.args.p.now) e.store-then-eq-2.result e.store-then-eq-2.new.p
bus_edited e =
    let own = e.in_ok-opening.own.now in
    let silent = good_silent e.args.p.now e.requires in
    rw (← (bus_stored_applied e.args.p.now silent (get_or own 0 0) (get_or own 1 0) (get_or own 2 0) (get_or own 3 0))) e.store-then-eq-2.ensures

pub returns-then-eq : goal.returns-then-eq
returns-then-eq c =
    let l = goal.at.returns-then-eq c in
    let i = l.In_ok-opening in
    let e = l.After-store in
    let s = c.args.s.now in
    let own = c.in_ok-opening.own.now in
    follows_stored (first_edit s) (the_remote own) c.args.p.now s _ _ (first_remote s _ own (front i) (back i) (remote_there e)) (edited e)
    _ (behind_own 3 s own (back i)) _ c.then_some.ensures

pub returns-then-eq-2 : goal.returns-then-eq-2
returns-then-eq-2 c =
    let l = goal.at.returns-then-eq-2 c in
    let i = l.In_ok-opening in
    let e = l.After-store-then-eq-2 in
    let s = c.args.s.now in
    let own = c.in_ok-opening.own.now in
    follows_stored (first_edit s) (the_matrix own) c.args.p.now s _ _ (first_matrix s _ own (front i) (back i) (matrix_there e)) (bus_edited e)
    _ (behind_own 5 s own (back i)) _ c.then_some-then-eq-2.ensures

none_there : (i : In_ok-opening) → (HasMessage 6 2 i.in_ok-opening.opening.now i.in_ok-opening.own.now → ⊥)
    → (HasMessage 11 4 i.in_ok-opening.opening.now i.in_ok-opening.own.now → ⊥)
    → Follows (first_edit i.args.s.now) i.args.p.now i.args.s.now None i.args.p.now
none_there i n m =
    let s = i.args.s.now in
    follows_none (first_edit s) i.args.p.now s (first_neither s _ _ (front i) (back i) n m)

pub returns-in_default : goal.returns-in_default
returns-in_default c =
    let opens = opened _ _ _ c.eq.ensures c.if-eq.true in
    none_there (goal.at.returns-in_default c).In_ok-opening
    (λ (h : HasMessage 6 2 c.in_ok-opening.opening.now c.in_ok-opening.own.now). grind arith)
    (one_kind _ _ 6 11 opens (λ e. omega arith) 4)

pub returns-in_default-own : goal.returns-in_default-own
returns-in_default-own c =
    let opens = opened _ _ _ c.eq-2.ensures c.if-eq-2.true in
    none_there (goal.at.returns-in_default-own c).In_ok-opening
    (one_kind _ _ 11 6 opens (λ e. omega arith) 2)
    (λ (h : HasMessage 11 4 c.in_ok-opening.opening.now c.in_ok-opening.own.now). grind arith)

pub returns : goal.returns
returns c =
    none_there (goal.at.returns c).In_ok-opening
    (λ h. other _ _ _ c.eq.ensures c.if-eq.false h.opens) (λ h. other _ _ _ c.eq-2.ensures c.if-eq-2.false h.opens)
