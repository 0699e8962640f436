-- Bytes are accepted exactly when they are the messages of an accepted list of edits, end to end.
use mathlib.Core.Path.{◌≡◌, refl, sym, ap, ◌∙◌, subst}
use mathlib.Core.Bool.{Bool, true, false, cond}
use mathlib.Core.List.{List, [], ◌∷◌, ◌++◌, append_assoc}
use mathlib.Core.Option.{Option, none, some, some-injective}
use Prim.Native.Nat.{ℕ, zero, suc, ◌≤◌, ◌<◌}
use native.Mathlib.Omega.{arith}
use lib.ListN.{length, take, drop, length-append, take-append-drop}
use lib.Seq.{drop_at, take_at}
use Rattle.pairs.specs.Pairs.{same_bytes}
use Rattle.pairs.proofs.Equal.{same_refl, same_equal}
use Rattle.edit_lists.specs.Lists.{Edit, remote, matrix, message_for, list_bytes, turned, Accepted}
use Rattle.edit_lists.specs.Check.{begins, as_remote, as_matrix, first_edit, before, and_behind, or_end, edits_in, ends_in, turn_into, accepts}
use Rattle.edit_lists.specs.promises.Shortest.{Listed}

-- Bytes that begin with a message.
begins_there : (m s : List ℕ) → begins m s ≡ true → s ≡ m ++ drop (length m) s
begins_there m s e =
    sym (take-append-drop (length m) s) ∙ ap (λ (t : List ℕ). t ++ drop (length m) s) (same_equal (take (length m) s) m e)

begins_back : (m s : List ℕ) → begins m (m ++ s) ≡ true
begins_back m s = rw (take_at m s (length m) refl) (same_refl m)

pub begins_long : (m s : List ℕ) → begins m s ≡ true → length m ≤ length s
begins_long m s e = omega (arith, ap length (begins_there m s e), length-append m (drop (length m) s))

-- A message stands at the start of bytes whose edit is found there.
pub first_found : (e : Edit) (s : List ℕ) → first_edit (message_for e ++ s) ≡ some e
unfolding first_edit
first_found (remote n v) s = rw (begins_back (message_for (remote n v)) s)
first_found (matrix b x a d) s = unfold same_bytes in (rw (begins_back (message_for (matrix b x a d)) s))

pub first_bytes : (s : List ℕ) (e : Edit) → first_edit s ≡ some e → s ≡ message_for e ++ drop (length (message_for e)) s
unfolding first_edit
first_bytes s e h = go (begins (message_for (as_remote s)) s) (begins (message_for (as_matrix s)) s) refl refl h
  where
    go : (t u : Bool) → begins (message_for (as_remote s)) s ≡ t → begins (message_for (as_matrix s)) s ≡ u
        → cond t (some (as_remote s)) (cond u (some (as_matrix s)) none) ≡ some e → s ≡ message_for e ++ drop (length (message_for e)) s
    go true u q r h =
        subst (λ (x : Edit). s ≡ message_for x ++ drop (length (message_for x)) s) (some-injective (as_remote s) e h)
        (begins_there (message_for (as_remote s)) s q)
    go false true q r h =
        subst (λ (x : Edit). s ≡ message_for x ++ drop (length (message_for x)) s) (some-injective (as_matrix s) e h)
        (begins_there (message_for (as_matrix s)) s r)
    go false false q r h = let z : ◌≡◌ {A = ℕ} 0 1 = cc in absurd (omega arith)

-- A message has bytes.
pub message_some : (e : Edit) → 0 < length (message_for e)
message_some (remote n v) = omega arith
message_some (matrix b s a d) = omega arith

-- The edits of bytes, by the first of them.
pub edits_none : (n : ℕ) → edits_in n [] ≡ some []
unfolding edits_in
edits_none zero = refl
edits_none (suc n) = refl

pub edits_first : (n : ℕ) (s : List ℕ) → 0 < length s → edits_in (suc n) s ≡ and_behind (first_edit s) (edits_in n) s
unfolding edits_in
edits_first n [] h = absurd (omega arith)
edits_first n (x ∷ s) h = refl

-- The bytes of a list have its edits.
pub edits_back : (es : List Edit) (n : ℕ) → length (list_bytes es) ≤ n → edits_in n (list_bytes es) ≡ some es
unfolding list_bytes
edits_back [] n h = edits_none n
edits_back (e ∷ es) zero h =
    let m = message_some e in
    absurd (omega (arith, length-append (message_for e) (list_bytes es)))
edits_back (e ∷ es) (suc n) h =
    let m = message_some e in
    let l = length-append (message_for e) (list_bytes es) in
    edits_first n (message_for e ++ list_bytes es) (omega arith)
    ∙ rw (first_found e (list_bytes es), drop_at (message_for e) (list_bytes es) (length (message_for e)) refl, edits_back es n (omega arith))

before_some : (e : Edit) (o : Option (List Edit)) (es : List Edit) → before e o ≡ some es → (xs : List Edit) × (o ≡ some xs) × (e ∷ xs ≡ es)
before_some e none es h = let z : ◌≡◌ {A = ℕ} 0 1 = cc in absurd (omega arith)
before_some e (some xs) es h = (xs, refl, some-injective (e ∷ xs) es h)

-- Bytes that have edits are theirs.
end_bytes : (s : List ℕ) (more : Option (List Edit)) (es : List Edit) → or_end s more ≡ some es → (more ≡ some es → list_bytes es ≡ s)
    → list_bytes es ≡ s
unfolding list_bytes
end_bytes [] more es h rest = ap list_bytes (sym (some-injective [] es h))
end_bytes (x ∷ s) more es h rest = rest h

pub edits_bytes : (n : ℕ) (s : List ℕ) (es : List Edit) → edits_in n s ≡ some es → list_bytes es ≡ s
unfolding edits_in list_bytes
edits_bytes zero s es h = end_bytes s none es h (λ k. let z : ◌≡◌ {A = ℕ} 0 1 = cc in absurd (omega arith))
edits_bytes (suc n) s es h =
    end_bytes s (and_behind (first_edit s) (edits_in n) s) es h
    (λ k. go (first_edit s) refl k (λ e xs. edits_bytes n (drop (length (message_for e)) s) xs))
  where
    go : (o : Option Edit) → first_edit s ≡ o → and_behind o (edits_in n) s ≡ some es
        → ((e : Edit) (xs : List Edit) → edits_in n (drop (length (message_for e)) s) ≡ some xs → list_bytes xs ≡ drop (length (message_for e)) s)
        → list_bytes es ≡ s
    go none q h rest = let z : ◌≡◌ {A = ℕ} 0 1 = cc in absurd (omega arith)
    go (some e) q h rest =
        let r = before_some e (edits_in n (drop (length (message_for e)) s)) es h in
        let own : list_bytes (e ∷ r.0) ≡ s = ap (λ (t : List ℕ). message_for e ++ t) (rest e r.0 r.1) ∙ sym (first_bytes s e q) in
        ap list_bytes (sym r.2) ∙ own

-- As many messages as there are bytes are enough.
pub edits_enough : (n m : ℕ) (s : List ℕ) → length s ≤ n → length s ≤ m → edits_in n s ≡ edits_in m s
edits_enough n m s h k = go (edits_in n s) (edits_in m s) refl refl
  where
    also : (i j : ℕ) (es : List Edit) → edits_in i s ≡ some es → length s ≤ j → edits_in j s ≡ some es
    also i j es q l =
        let own = edits_bytes i s es q in
        subst (λ (t : List ℕ). edits_in j t ≡ some es) own (edits_back es j (rw own l))

    go : (o u : Option (List Edit)) → edits_in n s ≡ o → edits_in m s ≡ u → edits_in n s ≡ edits_in m s
    go (some es) u q r = q ∙ sym (also n m es q k)
    go none none q r = q ∙ sym r
    go none (some es) q r = also m n es r h ∙ sym r

-- The checker's test passes exactly for the bytes of an accepted list.
pub accepted_there : (a b s : List ℕ) → accepts a b s ≡ true → Listed a b s
unfolding accepts
accepted_there a b s h = go (edits_in (length s) s) refl h
  where
    go : (o : Option (List Edit)) → edits_in (length s) s ≡ o → turn_into a b o ≡ true → Listed a b s
    go none q h = let z : ◌≡◌ {A = ℕ} 0 1 = cc in absurd (omega arith)
    go (some es) q h = record { edits = es; bytes = edits_bytes (length s) s es q; accepted = last (turned es a) refl h }
      where
        last : (o : Option (List ℕ)) → turned es a ≡ o → ends_in b o ≡ true → Accepted a b es
        last none e h = let z : ◌≡◌ {A = ℕ} 0 1 = cc in absurd (omega arith)
        last (some p) e h = e ∙ ap some (same_equal p b h)

pub accepted_back : (a b s : List ℕ) → Listed a b s → accepts a b s ≡ true
unfolding accepts
accepted_back a b s l =
    subst (λ (t : List ℕ). turn_into a b (edits_in (length t) t) ≡ true) l.bytes
    (rw (edits_back l.edits (length (list_bytes l.edits)) (omega arith), l.accepted) (same_refl b))

-- One list after another.
pub bytes_joined : (xs ys : List Edit) → list_bytes (xs ++ ys) ≡ list_bytes xs ++ list_bytes ys
unfolding list_bytes
bytes_joined [] ys = refl
bytes_joined (x ∷ xs) ys = rw (append_assoc, bytes_joined xs ys)

-- Bytes are the messages of one list only.
pub one_list : (xs ys : List Edit) → list_bytes xs ≡ list_bytes ys → xs ≡ ys
one_list xs ys e =
    let n = length (list_bytes xs) in
    some-injective xs ys (sym (edits_back xs n (omega arith)) ∙ ap (edits_in n) e ∙ edits_back ys n (omega (arith, ap length e)))
