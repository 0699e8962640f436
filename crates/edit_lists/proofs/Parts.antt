-- The parts of a patch: they lie end to end from place 8 to its end, and what two patches have in them goes by their bytes alone.
use mathlib.Core.Path.{◌≡◌, refl, sym, ap, ◌∙◌}
use mathlib.Core.Bool.{Bool, true, false, ◌&&◌, ◌||◌}
use mathlib.Core.List.{List, [], ◌∷◌}
use mathlib.Core.Logic.{◌⊎◌, inl, inr}
use Prim.Native.Nat.{ℕ, suc, ◌+◌, ◌-◌, ◌≤◌, ◌<◌}
use native.Mathlib.Omega.{arith}
use lib.Dec.{T, eqb, leb, ltb, eqb→eq, leb→le, ltb→lt}
use lib.ListN.{length, get_or, drop, length-take, length-drop}
use lib.Seq.{ext_get_or, get_or-take, get_or-drop}
use borrow.Author.Tests.{lt-ltb, le-ltb, ltb-true, ltb-false}
use Rattle.ranges.proofs.Below.{parts as both}
use Rattle.patch.specs.Patch.{source_at}
use Rattle.pairs.proofs.Equal.{same_refl, same_equal}
use Rattle.edit_lists.specs.Plan.{width_of, parts_from, parts, bytes_at, same_at, differing, bus_at}
use Rattle.edit_lists.specs.code.Left.{IsPart}

pub width_field : (k : ℕ) → k < 104 → width_of k ≡ 1
width_field k h = rw (lt-ltb k 104 h)

pub width_bus : (k : ℕ) → 104 ≤ k → width_of k ≡ 3
width_bus k h = rw (le-ltb k 104 h)

-- Parts that lie end to end from place m to place n.
abbrev pub Tiles : ℕ → ℕ → List ℕ → Type 0
Tiles m n [] = m ≡ n
Tiles m n (k ∷ ks) = (k ≡ m) × IsPart k × Tiles (m + width_of k) n ks

-- A part is a parameter or a bus.
pub part_kind : (k : ℕ) → IsPart k → (k < 104) ⊎ ((104 ≤ k) × (k ≡ source_at (bus_at k)) × (bus_at k < 10))
part_kind k p = go (ltb k 104) refl
  where
    go : (t : Bool) → ltb k 104 ≡ t → (k < 104) ⊎ ((104 ≤ k) × (k ≡ source_at (bus_at k)) × (bus_at k < 10))
    go true q = inl (ltb-true k 104 q)
    go false q = let l = ltb-false k 104 q in inr (l, p.2 l, omega arith)

abbrev is_part : ℕ → Bool
is_part k = leb 8 k && (ltb k 134 && (ltb k 104 || eqb k (source_at (bus_at k))))

abbrev tiled : ℕ → ℕ → List ℕ → Bool
tiled m n [] = eqb m n
tiled m n (k ∷ ks) = eqb k m && (is_part k && tiled (m + width_of k) n ks)

either : (s t : Bool) → T (s || t) → T s ⊎ T t
either true t h = inl tt
either false t h = inr h

proper : (k : ℕ) → T (is_part k) → IsPart k
proper k t =
    let h = both (leb 8 k) _ t in
    let r = both (ltb k 134) _ h.1 in
    (leb→le 8 k h.0, ltb→lt k 134 r.0, go (either (ltb k 104) _ r.1))
  where
    go : T (ltb k 104) ⊎ T (eqb k (source_at (bus_at k))) → 104 ≤ k → k ≡ source_at (bus_at k)
    go (inl t) u = let h = ltb→lt k 104 t in absurd (omega arith)
    go (inr t) u = eqb→eq k (source_at (bus_at k)) t

tile : (m n : ℕ) (ks : List ℕ) → T (tiled m n ks) → Tiles m n ks
tile m n [] t = eqb→eq m n t
tile m n (k ∷ ks) t =
    let h = both (eqb k m) _ t in
    let r = both (is_part k) (tiled (m + width_of k) n ks) h.1 in
    (eqb→eq k m h.0, proper k r.0, tile (m + width_of k) n ks r.1)

-- The parts lie end to end from place 8 to the patch's end.
pub parts_tile : Tiles 8 134 parts
unfolding parts parts_from
parts_tile = tile 8 134 parts tt

-- A part that starts in another is that part.
pub one_part : (x t : ℕ) → IsPart x → IsPart t → x ≤ t → t < x + width_of x → t ≡ x
one_part x t p q a b = grind (arith, width_field x, width_bus x)

-- The bytes of a part, each by its place.
part_byte : (k i : ℕ) (p : List ℕ) → k ≤ i → i < k + width_of k → get_or (bytes_at k p) (i - k) 0 ≡ get_or p i 0
part_byte k i p l h =
    let same : k + (i - k) ≡ i = omega arith in
    get_or-take (width_of k) (drop k p) (i - k) 0 (omega arith) ∙ get_or-drop k p (i - k) 0 ∙ ap (λ (j : ℕ). get_or p j 0) same

-- Patches of one length with the same bytes there have the same part.
pub part_by : (k : ℕ) (p q : List ℕ) → length p ≡ length q → ((i : ℕ) → k ≤ i → i < k + width_of k → get_or p i 0 ≡ get_or q i 0)
    → bytes_at k p ≡ bytes_at k q
part_by k p q l h =
    ext_get_or 0 (bytes_at k p) (bytes_at k q) (simp (length-take, length-drop, l))
    (λ j u. get_or-take (width_of k) (drop k p) j 0 (short j u) ∙ get_or-drop k p j 0 ∙ h (k + j) (omega arith) (let s = short j u in omega arith)
    ∙ sym (get_or-drop k q j 0) ∙ sym (get_or-take (width_of k) (drop k q) j 0 (short j u)))
  where
    short : (j : ℕ) → j < length (bytes_at k p) → j < width_of k
    short j u = omega (arith, length-take (width_of k) (drop k p))

-- Where the test passes, each byte is the same.
pub bytes_alike : (k : ℕ) (a b : List ℕ) → same_at k a b ≡ true → (i : ℕ) → k ≤ i → i < k + width_of k → get_or a i 0 ≡ get_or b i 0
bytes_alike k a b e i l h =
    sym (part_byte k i a l h) ∙ ap (λ (p : List ℕ). get_or p (i - k) 0) (same_equal (bytes_at k a) (bytes_at k b) e) ∙ part_byte k i b l h

-- The parts in which two patches differ, by the first.
module _ (k : ℕ) (ks : List ℕ) (a b : List ℕ) where
  pub differing_same : same_at k a b ≡ true → differing (k ∷ ks) a b ≡ differing ks a b
  unfolding differing
  differing_same e = rw e

  pub differing_other : same_at k a b ≡ false → differing (k ∷ ks) a b ≡ k ∷ differing ks a b
  unfolding differing
  differing_other e = rw e

  pub one_longer : length (differing (k ∷ ks) a b) ≤ suc (length (differing ks a b))
  one_longer = go (same_at k a b) refl
    where
      go : (t : Bool) → same_at k a b ≡ t → length (differing (k ∷ ks) a b) ≤ suc (length (differing ks a b))
      go true q = rw (differing_same q) (omega arith)
      go false q = rw (differing_other q) (omega arith)

  pub not_shorter : length (differing ks a b) ≤ length (differing (k ∷ ks) a b)
  not_shorter = go (same_at k a b) refl
    where
      go : (t : Bool) → same_at k a b ≡ t → length (differing ks a b) ≤ length (differing (k ∷ ks) a b)
      go true q = rw (differing_same q) (omega arith)
      go false q = rw (differing_other q) (omega arith)

-- A patch does not differ from itself.
pub differing_refl : (ks : List ℕ) (a : List ℕ) → differing ks a a ≡ []
unfolding differing
differing_refl [] a = refl
differing_refl (k ∷ ks) a = rw (same_refl (bytes_at k a)) (differing_refl ks a)

-- Patches of one length with the same bytes from place m on differ from b in the same of the parts from there on.
pub differing_by : (ks : List ℕ) (m n : ℕ) (p q b : List ℕ) → Tiles m n ks → length p ≡ length q → ((i : ℕ) → m ≤ i → get_or p i 0 ≡ get_or q i 0)
    → differing ks p b ≡ differing ks q b
unfolding differing
differing_by [] m n p q b t l h = refl
differing_by (k ∷ ks) m n p q b t l h =
    let at = t.0 in
    rw (part_by k p q l (λ i a u. h i (omega arith)), differing_by ks (m + width_of k) n p q b t.2 l (λ i a. h i (omega arith)))
