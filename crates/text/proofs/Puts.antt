-- Text put into a room, one part behind the other: nothing; then more, which goes on from where the last part ended, whether it fits whole, in
-- part or not at all. Each goes by the laws of `take`, `drop` and `++`.
use mathlib.Core.Path.{◌≡◌, refl, sym, ap, ◌∙◌}
use mathlib.Core.List.{List, [], ◌∷◌, ◌++◌, append_assoc, append-nil}
use Prim.Native.Nat.{ℕ, zero, suc, ◌+◌, ◌-◌, ◌≤◌}
use native.Mathlib.Decide.{dec_le}
use native.Mathlib.Nat.{add-zero}
use native.Mathlib.Numerals.{unary_clauses}
use native.Mathlib.Omega.{arith}
use lib.ListN.{length, take, drop, length-append, length-drop, length-take, take-append-drop}
use lib.Seq.{length-take-le, take_all, take-nil, take_at, drop_at, drop-drop}
use Rattle.text.specs.Text.{fitting, IsPrefixLen, Puts, Gains, Holds}
use Rattle.text.specs.declared.Text.{Text}

-- The first n of two lists joined: the first of w, and of v as many as are left.
take_both : (n : ℕ) (w v : List ℕ) → take n (w ++ v) ≡ take n w ++ take (n - length (take n w)) v
take_both zero w v = refl
take_both (suc n) [] v = simp unary_clauses
take_both (suc n) (x ∷ w) v = simp unary_clauses (ap (λ (l : List ℕ). x ∷ l) (take_both n w v))

length_take_most : (n : ℕ) (w : List ℕ) → length (take n w) ≤ n
length_take_most n w = simp length-take (omega arith)

-- No byte.
pub puts_none : (old : List ℕ) (at : ℕ) → Puts [] old at old at
puts_none old at =
    let none : fitting [] old at ≡ [] = take-nil (length old - at) in
    record { ends = rw none (sym (add-zero at)); text = rw none (sym (take-append-drop at old)) }

-- What stands in a room behind a call: up to the end what stood there before and what was put, then what stood there before.
pub record After (w old : List ℕ) (at : ℕ) (mid : List ℕ) (e : ℕ) : Type 0 where
  pub same_length : length mid ≡ length old
  pub front : take e mid ≡ take at old ++ fitting w old at
  pub behind : drop e mid ≡ drop e old

pub after : (w old : List ℕ) (at : ℕ) (mid : List ℕ) (e : ℕ) → Puts w old at mid e → After w old at mid e
after w old at mid e p = by_place (dec_le at (length old))
  where
    by_place : Dec (at ≤ length old) → After w old at mid e
    by_place (yes h) =
        let put = fitting w old at in
        let few : length put ≤ length old - at = length_take_most (length old - at) w in
        let ahead : length (take at old ++ put) ≡ e = length-append (take at old) put ∙ omega (arith, length-take-le at old h, p.ends) in
        let whole : mid ≡ (take at old ++ put) ++ drop e old = p.text ∙ sym (append_assoc (take at old) put (drop e old)) in
        record {
          same_length = rw (whole, length-append, ahead, length-drop) (omega (arith, p.ends));
          front = rw whole (take_at (take at old ++ put) (drop e old) e ahead);
          behind = rw whole (drop_at (take at old ++ put) (drop e old) e ahead);
        }
    by_place (no h) =
        let none : length old - at ≡ 0 = omega (arith, h) in
        let here : e ≡ at = rw none at p.ends ∙ add-zero at in
        let kept : mid ≡ old = rw (none, here) at p.text ∙ take-append-drop at old in
        record { same_length = rw kept refl; front = rw (kept, here, none) (sym (append-nil (take at old))); behind = rw kept refl }

-- Then more.
pub puts_then : {w old : List ℕ} {at : ℕ} {mid : List ℕ} {e : ℕ} {v new : List ℕ} {f : ℕ} → Puts w old at mid e → Puts v mid e new f
    → Puts (w ++ v) old at new f
puts_then {w} {old} {at} {mid} {e} {v} {new} {f} p q =
    let a = after w old at mid e p in
    let put = fitting w old at in
    let left : length mid - e ≡ length old - at - length put = omega (arith, a.same_length, p.ends) in
    let both : fitting (w ++ v) old at ≡ put ++ fitting v mid e = rw left (take_both (length old - at) w v) in
    let back : drop f mid ≡ drop f old =
    rw (q.ends, ← (drop-drop (length (fitting v mid e)) e mid), a.behind) (drop-drop (length (fitting v mid e)) e old) in
    record {
      ends = rw both (q.ends ∙ omega (arith, p.ends, length-append put (fitting v mid e)));
      text = q.text ∙ rw (a.front, back, both) (simp append_assoc);
    }

-- Where all of it fits, it is there whole.
pub puts_whole : (w old : List ℕ) (at : ℕ) → at + length w ≤ length old → fitting w old at ≡ w
puts_whole w old at h = take_all (length old - at) w (omega arith)

-- The end is a place of the room, so that what stands before it can be lent.
pub puts_counts : {w old : List ℕ} {at : ℕ} {new : List ℕ} {e : ℕ} → at ≤ length old → Puts w old at new e → IsPrefixLen e new
puts_counts {w} {old} {at} {new} {e} h p =
    let same = (after w old at new e p).same_length in
    let few = length_take_most (length old - at) w in
    let within : e ≤ length new = omega (arith, p.ends) in
    (within, sym (length-take-le e new within))

-- A text that gains nothing, and one that gains more.
pub gains_none : (a : Text) → Gains [] a a
gains_none a = record { same_room = refl; puts = puts_none a.room.now a.end }

pub gains_then : {w v : List ℕ} {a b c : Text} → Gains w a b → Gains v b c → Gains (w ++ v) a c
gains_then g h = record { same_room = h.same_room ∙ g.same_room; puts = puts_then g.puts h.puts }

-- Emptied first, a text is what it gains then.
pub holds_emptied : {w : List ℕ} {a b c : Text} → (b.room ≡ a.room) × (b.end ≡ 0) → Gains w b c → Holds w a c
holds_emptied e g = record { same_room = rw e.0 at g.same_room; puts = rw (e.0, e.1) at g.puts }

-- Part of what a text is to gain is put: what puts the rest behind it has put the whole.
abbrev pub Underway : List ℕ → List ℕ → Text → Text → Type 0
Underway whole left start text = (new : Text) → Gains left text new → Gains whole start new

-- One part more of the rest.
pub put_on : {whole left part rest : List ℕ} {start text text' : Text} → left ≡ part ++ rest → Underway whole left start text → Gains part text text'
    → Underway whole rest start text'
put_on e u g new h = u new (rw e (gains_then g h))

-- Nothing is left.
pub put_whole : {whole left : List ℕ} {start text : Text} → left ≡ [] → Underway whole left start text → Gains whole start text
put_whole {whole} {left} {start} {text} e u = u text (rw e (gains_none text))
