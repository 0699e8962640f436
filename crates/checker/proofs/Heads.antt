-- When bytes begin with the message of an edit: the first four are those of its kind, and behind its own comes the last.
use Rattle.std.proofs.Common.{◌≡◌, ℕ, zero, suc, ◌+◌, ◌<◌, ◌≤◌, Bool, true, false, List, [], ◌∷◌, refl, sym, ap, subst, ◌∙◌, arith}
use Rattle.std.proofs.Common.{length, get_or, take, drop, length-drop, get_or-take, get_or-drop}
use Rattle.std.proofs.Math.Numerals.{add-one}
use Rattle.std.proofs.Math.Option.{some, none}
use Rattle.std.proofs.Math.Seq.{drop-cons, take-add}
use Rattle.pairs.proofs.Equal.{same_refl, same_equal}
use Rattle.edit_lists.specs.Lists.{Edit, remote, matrix, message_for}
use Rattle.edit_lists.specs.Check.{begins, as_remote, as_matrix, first_edit}
use Rattle.edit_lists.proofs.Bytes.{begins_long}

-- Bytes from a place on, each by its place.
abbrev bytes_at : ℕ → ℕ → List ℕ → List ℕ
bytes_at zero i s = []
bytes_at (suc n) i s = get_or s i 0 ∷ bytes_at n (i + 1) s

by_places : (n i : ℕ) (s : List ℕ) → i + n ≤ length s → take n (drop i s) ≡ bytes_at n i s
by_places zero i s h = refl
by_places (suc n) i s h = rw (drop-cons s i 0 (omega arith), ← add-one i, by_places n (i + 1) s (omega arith))

-- Four bytes and those behind them begin with a message of an opcode, which has n bytes of its own.
pub record HasMessage (opcode n : ℕ) (opening own : List ℕ) : Type 0 where
  pub opens : opening ≡ 240 ∷ 16 ∷ 6 ∷ opcode ∷ []
  pub long : n + 1 ≤ length own
  pub end : get_or own n 0 ≡ 247

-- The edits by a message's own bytes.
abbrev pub the_remote : List ℕ → Edit
the_remote own = remote (get_or own 0 0) (get_or own 1 0)

abbrev pub the_matrix : List ℕ → Edit
the_matrix own = matrix (get_or own 0 0) (get_or own 1 0) (get_or own 2 0) (get_or own 3 0)

fails : (t : Bool) → (t ≡ true → ⊥) → t ≡ false
fails true n = absurd (n refl)
fails false n = refl

module _ (s opening own : List ℕ) (front : opening ≡ take 4 s) (back : own ≡ drop 4 s) where
  own_at : (i : ℕ) → get_or own i 0 ≡ get_or s (4 + i) 0
  own_at i = rw back (get_or-drop 4 s i 0)

  same_remote : as_remote s ≡ the_remote own
  same_remote = rw (own_at 0, own_at 1) refl

  same_matrix : as_matrix s ≡ the_matrix own
  same_matrix = rw (own_at 0, own_at 1, own_at 2, own_at 3) refl

  remote_begins : HasMessage 6 2 opening own → begins (message_for (as_remote s)) s ≡ true
  remote_begins h =
      let all : take 7 s ≡ message_for (the_remote own) =
      take-add 4 3 s ∙ rw (← front, ← back, h.opens, by_places 3 0 own h.long, h.end) refl in
      subst (λ (e : Edit). begins (message_for e) s ≡ true) (sym same_remote) (rw all (same_refl (message_for (the_remote own))))

  matrix_begins : HasMessage 11 4 opening own → begins (message_for (as_matrix s)) s ≡ true
  matrix_begins h =
      let all : take 9 s ≡ message_for (the_matrix own) =
      take-add 4 5 s ∙ rw (← front, ← back, h.opens, by_places 5 0 own h.long, h.end) refl in
      subst (λ (e : Edit). begins (message_for e) s ≡ true) (sym same_matrix) (rw all (same_refl (message_for (the_matrix own))))

  -- A byte of a message that they begin with.
  byte_of : (m : List ℕ) → begins m s ≡ true → (i : ℕ) → i < length m → get_or s i 0 ≡ get_or m i 0
  byte_of m e i h = sym (get_or-take (length m) s i 0 h) ∙ ap (λ (x : List ℕ). get_or x i 0) (same_equal (take (length m) s) m e)

  has_message : (opcode n : ℕ) → n + 5 ≤ length s → get_or s 0 0 ≡ 240 → get_or s 1 0 ≡ 16 → get_or s 2 0 ≡ 6 → get_or s 3 0 ≡ opcode
      → get_or s (4 + n) 0 ≡ 247 → HasMessage opcode n opening own
  has_message opcode n l a b c d e = record {
    opens = front ∙ by_places 4 0 s (omega arith) ∙ cc;
    long = rw back (omega (arith, length-drop 4 s));
    end = own_at n ∙ e;
  }

  has_remote : begins (message_for (as_remote s)) s ≡ true → HasMessage 6 2 opening own
  has_remote e =
      let m = message_for (as_remote s) in
      let at = byte_of m e in
      has_message 6 2 (begins_long m s e) (at 0 (omega arith)) (at 1 (omega arith)) (at 2 (omega arith)) (at 3 (omega arith)) (at 6 (omega arith))

  has_matrix : begins (message_for (as_matrix s)) s ≡ true → HasMessage 11 4 opening own
  has_matrix e =
      let m = message_for (as_matrix s) in
      let at = byte_of m e in
      has_message 11 4 (begins_long m s e) (at 0 (omega arith)) (at 1 (omega arith)) (at 2 (omega arith)) (at 3 (omega arith)) (at 8 (omega arith))

  -- So the edit that they begin with.
  pub first_remote : HasMessage 6 2 opening own → first_edit s ≡ some (the_remote own)
  unfolding first_edit
  first_remote h = rw (remote_begins h) (ap some same_remote)

  pub first_matrix : HasMessage 11 4 opening own → first_edit s ≡ some (the_matrix own)
  unfolding first_edit
  first_matrix h =
      let kind : HasMessage 6 2 opening own → ⊥ =
      λ r. let z = ap (λ (x : List ℕ). get_or x 3 0) (sym r.opens ∙ h.opens) in omega arith in
      let other = fails (begins (message_for (as_remote s)) s) (λ e. kind (has_remote e)) in
      rw (other, matrix_begins h) (ap some same_matrix)

  pub first_neither : (HasMessage 6 2 opening own → ⊥) → (HasMessage 11 4 opening own → ⊥) → first_edit s ≡ none
  unfolding first_edit
  first_neither n m =
      rw (
        fails (begins (message_for (as_remote s)) s) (λ e. n (has_remote e)),
        fails (begins (message_for (as_matrix s)) s) (λ e. m (has_matrix e)),
      ) refl

pub first_short : (s : List ℕ) → length s < 4 → first_edit s ≡ none
first_short s h =
    let few = length-drop 4 s in
    first_neither s (take 4 s) (drop 4 s) refl refl (λ m. let l = m.long in omega arith) (λ m. let l = m.long in omega arith)
