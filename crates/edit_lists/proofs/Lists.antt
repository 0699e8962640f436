-- Lists of edits: by the first edit, which is allowed and changes one part, and then by the rest.
use mathlib.Core.Path.{◌≡◌, refl, sym, ap, ◌∙◌}
use mathlib.Core.Bool.{Bool, true, false, cond}
use mathlib.Core.List.{List, [], ◌∷◌, ◌++◌, map}
use mathlib.Core.Option.{none, some, some-injective}
use Prim.Native.Nat.{ℕ, suc, ◌+◌, ◌≤◌, ◌<◌}
use native.Mathlib.Omega.{arith}
use lib.Dec.{eqb, ltb}
use lib.ListN.{length, get_or}
use lib.Seq.{ext_get_or, get_or-take}
use borrow.Author.Tests.{eq-eqb, eqb-true, ltb-true, ltb-false}
use Rattle.pairs.specs.Pairs.{same_bytes, name_of}
use Rattle.edit_lists.specs.Lists.{Edit, applied, turned, Accepted}
use Rattle.edit_lists.specs.Plan.{width_of, parts, bytes_at, same_at, differing, reaching, plan}
use Rattle.edit_lists.specs.promises.Shortest.{Good, InTurn}
use Rattle.edit_lists.proofs.Parts.{Tiles, parts_tile, one_part, part_by, bytes_alike, differing_same, differing_other, one_longer, not_shorter}
use Rattle.edit_lists.proofs.Parts.{differing_refl, differing_by}
use Rattle.edit_lists.proofs.Reach.{Changes, name_stays, one_changed, allowed_outcome, Gets, part_gets, good_length}

-- No edits leave the patch as it is.
pub turned_none : (p : List ℕ) → turned [] p ≡ some p
unfolding turned
turned_none p = refl

pub same_last : (a b : List ℕ) → Accepted a b [] → a ≡ b
same_last a b e = some-injective a b (sym (turned_none a) ∙ e)

-- An edit that is allowed leaves it to those behind it.
pub turned_on : (e : Edit) (es : List Edit) (p : List ℕ) → (applied e p).result.answer ≡ 0 → turned (e ∷ es) p ≡ turned es (applied e p).lent
unfolding turned
turned_on e es p z = rw (eq-eqb (applied e p).result.answer 0 z)

-- In an accepted list the first edit is allowed and the rest is accepted from there.
pub turned_first : (e : Edit) (es : List Edit) (p b : List ℕ) → Accepted p b (e ∷ es)
    → ((applied e p).result.answer ≡ 0) × Accepted (applied e p).lent b es
unfolding turned
turned_first e es p b h = go (eqb (applied e p).result.answer 0) refl h
  where
    go : (t : Bool) → eqb (applied e p).result.answer 0 ≡ t → cond t (turned es (applied e p).lent) none ≡ some b
        → ((applied e p).result.answer ≡ 0) × Accepted (applied e p).lent b es
    go true q h = (eqb-true (applied e p).result.answer 0 q, h)
    go false q h = let z : ◌≡◌ {A = ℕ} 0 1 = cc in absurd (omega arith)

-- One list after another.
pub joined : (a b c : List ℕ) (xs ys : List Edit) → Accepted a b xs → Accepted b c ys → Accepted a c (xs ++ ys)
joined a b c [] ys h k = let same = same_last a b h in rw same k
joined a b c (x ∷ xs) ys h k =
    let f = turned_first x xs a b h in
    turned_on x (xs ++ ys) a f.0 ∙ joined (applied x a).lent b c xs ys f.1 k

-- Each edit of it is allowed in turn.
pub in_turn : (a b : List ℕ) (xs : List Edit) (e : Edit) (ys : List Edit) → Accepted a b (xs ++ e ∷ ys) → InTurn a b xs e ys
in_turn a b [] e ys h =
    let f = turned_first e ys a b h in
    record { patch = a; before = turned_none a; allowed = allowed_outcome e a f.0; behind = f.1 }
in_turn a b (x ∷ xs) e ys h =
    let f = turned_first x (xs ++ e ∷ ys) a b h in
    let r = in_turn (applied x a).lent b xs e ys f.1 in
    record { patch = r.patch; before = turned_on x xs a f.0 ∙ r.before; allowed = r.allowed; behind = r.behind }

-- No edit reaches a name.
pub name_kept : (a b : List ℕ) (es : List Edit) → Accepted a b es → name_of a ≡ name_of b
name_kept a b [] h = ap name_of (same_last a b h)
name_kept a b (e ∷ es) h =
    let f = turned_first e es a b h in
    let c = one_changed e a f.0 in
    name_stays c.0 a (applied e a).lent c.1 ∙ name_kept (applied e a).lent b es f.1

-- By whether a place stands before another.
pub by_order : {P : Type 0} (i m : ℕ) → (i < m → P) → (m ≤ i → P) → P
by_order {P} i m near far = go (ltb i m) refl
  where
    go : (v : Bool) → ltb i m ≡ v → P
    go true e = near (ltb-true i m e)
    go false e = far (ltb-false i m e)

-- A change of one part takes away one difference at most: parts before it are as they were, and so are those behind.
module _ (k : ℕ) (ks : List ℕ) (p q b : List ℕ) where
  fewer_here : differing ks p b ≡ differing ks q b → length (differing (k ∷ ks) p b) ≤ suc (length (differing (k ∷ ks) q b))
  fewer_here rest =
      let longer = one_longer k ks p b in
      let shorter = not_shorter k ks q b in
      let same = ap length rest in
      omega arith

  fewer_later : same_at k p b ≡ same_at k q b → length (differing ks p b) ≤ suc (length (differing ks q b))
      → length (differing (k ∷ ks) p b) ≤ suc (length (differing (k ∷ ks) q b))
  fewer_later f rest = go (same_at k q b) refl
    where
      go : (v : Bool) → same_at k q b ≡ v → length (differing (k ∷ ks) p b) ≤ suc (length (differing (k ∷ ks) q b))
      go true e = rw (differing_same k ks p b (f ∙ e), differing_same k ks q b e) rest
      go false e = rw (differing_other k ks p b (f ∙ e), differing_other k ks q b e) (omega arith)

fewer : (ks : List ℕ) (m n x : ℕ) (p q b : List ℕ) → Tiles m n ks → Changes x p q → m ≤ x
    → length (differing ks p b) ≤ suc (length (differing ks q b))
fewer [] m n x p q b t c l = unfold differing in (omega arith)
fewer (k ∷ ks) m n x p q b t c l =
    let at = t.0 in
    let sizes = c.size ∙ sym (good_length q c.good) in
    by_order x (m + width_of k)
    (λ inside.
    let here = one_part k x t.1 c.part (omega arith) (omega arith) in
    let ends : x + width_of x ≡ m + width_of k = rw (here, at) in
    fewer_here k ks p q b (differing_by ks (m + width_of k) n p q b t.2 sizes (λ i u. sym (c.behind i (omega arith)))))
    (λ past.
    fewer_later k ks p q b (ap (λ (y : List ℕ). same_bytes y (bytes_at k b)) (part_by k p q sizes (λ i u v. sym (c.before i (omega arith)))))
    (fewer ks (m + width_of k) n x p q b t.2 c past))

-- So an accepted list has an edit for each part that differs.
pub as_many : (a b : List ℕ) (es : List Edit) → Accepted a b es → length (differing parts a b) ≤ length es
as_many a b [] h =
    let same = same_last a b h in
    rw (same, differing_refl parts b) (omega arith)
as_many a b (e ∷ es) h =
    let f = turned_first e es a b h in
    let c = one_changed e a f.0 in
    let one = fewer parts 8 134 c.0 a (applied e a).lent b parts_tile c.1 c.1.part.0 in
    let rest = as_many (applied e a).lent b es f.1 in
    omega arith

-- The edits for the parts from place m to place n: allowed in turn, they give those parts the bytes of b and keep what stands before.
record Reached (m n : ℕ) (es : List Edit) (p b : List ℕ) : Type 0 where
  last : List ℕ
  turns : turned es p ≡ some last
  good : Good last
  below : (i : ℕ) → i < m → get_or last i 0 ≡ get_or p i 0
  there : (i : ℕ) → m ≤ i → i < n → get_or last i 0 ≡ get_or b i 0

module _ (k : ℕ) (ks : List ℕ) (m n : ℕ) (p b : List ℕ) (t : Tiles m n (k ∷ ks)) where
  abbrev es : List ℕ → List ℕ → List Edit
  es xs q = map (reaching b) (differing xs q b)

  -- The first part is the same already.
  reached_same : same_at k p b ≡ true → Reached (m + width_of k) n (es ks p) p b → Reached m n (es (k ∷ ks) p) p b
  reached_same q r =
      let at = t.0 in
      rw (differing_same k ks p b q)
      (record {
        last = r.last;
        turns = r.turns;
        good = r.good;
        below = λ i h. r.below i (omega arith);
        there = λ i l h. by_order i (m + width_of k) (λ u. r.below i u ∙ bytes_alike k p b q i (omega arith) (omega arith)) (λ u. r.there i u h);
      })

  -- It differs, and its edit comes first.
  reached_other : same_at k p b ≡ false → Gets k p b (applied (reaching b k) p)
      → Reached (m + width_of k) n (es ks (applied (reaching b k) p).lent) (applied (reaching b k) p).lent b → Reached m n (es (k ∷ ks) p) p b
  reached_other q s r =
      let at = t.0 in
      let c = s.changes in
      let p₁ = (applied (reaching b k) p).lent in
      let sizes = c.size ∙ sym (good_length p₁ c.good) in
      let rest = differing_by ks (m + width_of k) n p p₁ b t.2 sizes (λ i l. sym (c.behind i (omega arith))) in
      rw (differing_other k ks p b q, rest)
      (record {
        last = r.last;
        turns = turned_on (reaching b k) (es ks p₁) p s.allowed ∙ r.turns;
        good = r.good;
        below = λ i h. r.below i (omega arith) ∙ c.before i (omega arith);
        there = λ i l h. by_order i (m + width_of k) (λ u. r.below i u ∙ s.there i (omega arith) (omega arith)) (λ u. r.there i u h);
      })

reached : (ks : List ℕ) (m n : ℕ) (p b : List ℕ) → Tiles m n ks → Good p → Good b → Reached m n (map (reaching b) (differing ks p b)) p b
unfolding differing
reached [] m n p b t g f =
    record { last = p; turns = turned_none p; good = g; below = λ i h. refl; there = λ i l h. absurd (omega arith) }
reached (k ∷ ks) m n p b t g f =
    go (same_at k p b) refl (λ p₁ g₁. reached ks (m + width_of k) n p₁ b t.2 g₁ f)
  where
    go : (v : Bool) → same_at k p b ≡ v → ((q : List ℕ) → Good q → Reached (m + width_of k) n (map (reaching b) (differing ks q b)) q b)
        → Reached m n (map (reaching b) (differing (k ∷ ks) p b)) p b
    go true q rest = reached_same k ks m n p b t q (rest p g)
    go false q rest =
        let s = part_gets k p b t.1 g f in
        reached_other k ks m n p b t q s (rest (applied (reaching b k) p).lent s.changes.good)

-- The planner's list is accepted.
pub plan_accepted : (a b : List ℕ) → Good a → Good b → name_of a ≡ name_of b → Accepted a b (plan a b)
unfolding plan
plan_accepted a b g f e =
    let r = reached parts 8 134 a b parts_tile g f in
    let la = good_length r.last r.good in
    let lb = good_length b f in
    let named : (i : ℕ) → i < 8 → get_or a i 0 ≡ get_or b i 0 =
    λ i h. sym (get_or-take 8 a i 0 h) ∙ ap (λ (l : List ℕ). get_or l i 0) e ∙ get_or-take 8 b i 0 h in
    r.turns ∙ ap some (ext_get_or 0 r.last b (la ∙ sym lb) (λ i h. by_order i 8 (λ k. r.below i k ∙ named i k) (λ k. r.there i k (omega arith))))
