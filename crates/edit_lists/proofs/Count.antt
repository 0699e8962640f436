-- The planner's list has a message for each parameter and each bus that differs: the parameters' places, put in order, are 8..103.
use mathlib.Core.Path.{◌≡◌, refl, sym, ap, ◌∙◌}
use mathlib.Core.Bool.{Bool, true, false, cond, not, and-true}
use mathlib.Core.List.{List, [], ◌∷◌, ◌++◌}
use mathlib.Core.Option.{Option, none, some}
use Prim.Native.Nat.{ℕ, zero, suc, ◌+◌, ◌≤◌, ◌<◌}
use native.Mathlib.Omega.{arith}
use lib.Dec.{eqb, leb}
use lib.ListN.{length, get_or, take, drop}
use lib.Seq.{drop-cons}
use Rattle.fields.specs.Fields.{fields, search_from, place_of}
use Rattle.patch.specs.Patch.{source_at}
use Rattle.pairs.specs.Pairs.{same_bytes}
use Rattle.edit_lists.specs.Plan.{parts_from, parts, same_at, differing}
use Rattle.edit_lists.specs.promises.Shortest.{Good, count_below, byte_differs, parameter_differs, bus_differs}
use Rattle.edit_lists.proofs.Parts.{width_field, width_bus}
use Rattle.edit_lists.proofs.Reach.{good_length}

-- How many of some places pass a test.
unfoldable tally : (ℕ → Bool) → List ℕ → ℕ
tally f [] = 0
tally f (k ∷ ks) = cond (f k) 1 0 + tally f ks

-- In any order as many: so with a place put where it belongs.
unfoldable insert : ℕ → List ℕ → List ℕ
insert x [] = x ∷ []
insert x (k ∷ ks) = cond (leb x k) (x ∷ k ∷ ks) (k ∷ insert x ks)

unfoldable sort : List ℕ → List ℕ
sort [] = []
sort (k ∷ ks) = insert k (sort ks)

insert_tally : (f : ℕ → Bool) (x : ℕ) (ks : List ℕ) → tally f (insert x ks) ≡ cond (f x) 1 0 + tally f ks
unfolding insert tally
insert_tally f x [] = refl
insert_tally f x (k ∷ ks) = go (leb x k) (insert_tally f x ks)
  where
    go : (t : Bool) → tally f (insert x ks) ≡ cond (f x) 1 0 + tally f ks
        → tally f (cond t (x ∷ k ∷ ks) (k ∷ insert x ks)) ≡ cond (f x) 1 0 + (cond (f k) 1 0 + tally f ks)
    go true i = refl
    go false i = omega arith

sort_tally : (f : ℕ → Bool) (ks : List ℕ) → tally f (sort ks) ≡ tally f ks
unfolding sort tally
sort_tally f [] = refl
sort_tally f (k ∷ ks) = let i = sort_tally f ks in insert_tally f k (sort ks) ∙ ap (λ (n : ℕ). cond (f k) 1 0 + n) i

-- The places of the parameters below n.
abbrev or_place : Option ℕ → List ℕ → List ℕ
or_place none ks = ks
or_place (some k) ks = k ∷ ks

unfoldable places : ℕ → List ℕ
places zero = []
places (suc n) = or_place (place_of n) (places n)

module _ (a b : List ℕ) where
  abbrev byte : ℕ → Bool
  byte k = not (eqb (get_or a k 0) (get_or b k 0))

  abbrev part : ℕ → Bool
  part k = not (same_at k a b)

  -- The parameters that differ, by their places.
  by_place : (n : ℕ) → count_below n (parameter_differs a b) ≡ tally byte (places n)
  unfolding count_below tally places
  by_place zero = refl
  by_place (suc n) = go (place_of n) (by_place n)
    where
      go : (o : Option ℕ) → count_below n (parameter_differs a b) ≡ tally byte (places n)
          → cond (byte_differs a b o) 1 0 + count_below n (parameter_differs a b) ≡ tally byte (or_place o (places n))
      go none i = omega arith
      go (some k) i = ap (λ (m : ℕ). cond (byte k) 1 0 + m) i

  -- The parts that differ, by their places.
  differ_tally : (ks : List ℕ) → length (differing ks a b) ≡ tally part ks
  unfolding differing tally
  differ_tally [] = refl
  differ_tally (k ∷ ks) = go (same_at k a b) (differ_tally ks)
    where
      go : (t : Bool) → length (differing ks a b) ≡ tally part ks
          → length (cond t (differing ks a b) (k ∷ differing ks a b)) ≡ cond (not t) 1 0 + tally part ks
      go true i = omega arith
      go false i = omega arith

-- The first of the parts are the parameters' places, the others the buses'.
unfoldable up_from : ℕ → ℕ → List ℕ
up_from zero k = []
up_from (suc n) k = k ∷ up_from n (suc k)

unfoldable buses_below : ℕ → List ℕ
buses_below zero = []
buses_below (suc c) = source_at c ∷ buses_below c

in_order : sort (places 100) ≡ up_from 96 8
unfolding sort insert places up_from place_of search_from fields
in_order = refl

all_parts : parts ≡ up_from 96 8 ++ sort (buses_below 10)
unfolding sort insert buses_below up_from parts parts_from
all_parts = refl

tally_append : (f : ℕ → Bool) (xs ys : List ℕ) → tally f (xs ++ ys) ≡ tally f xs + tally f ys
unfolding tally
tally_append f [] ys = omega arith
tally_append f (x ∷ xs) ys = let i = tally_append f xs ys in omega arith

-- A byte that is there is the part of its place.
tally_same : (f g : ℕ → Bool) (n k : ℕ) → ((i : ℕ) → k ≤ i → i < k + n → f i ≡ g i) → tally f (up_from n k) ≡ tally g (up_from n k)
unfolding tally up_from
tally_same f g zero k h = refl
tally_same f g (suc n) k h =
    rw (h k (omega arith) (omega arith)) (ap (λ (m : ℕ). cond (g k) 1 0 + m) (tally_same f g n (suc k) (λ i l u. h i (omega arith) (omega arith))))

pub one_byte : (a b : List ℕ) (k : ℕ) → k < length a → k < length b
    → same_bytes (take 1 (drop k a)) (take 1 (drop k b)) ≡ eqb (get_or a k 0) (get_or b k 0)
unfolding same_bytes
one_byte a b k ha hb = rw (drop-cons a k 0 ha, drop-cons b k 0 hb, and-true)

module _ (a b : List ℕ) (g : Good a) (f : Good b) where
  field_part : (k : ℕ) → 8 ≤ k → k < 8 + 96 → byte a b k ≡ part a b k
  field_part k l u =
      let la = good_length a g in
      let lb = good_length b f in
      rw (width_field k (omega arith), one_byte a b k (omega arith) (omega arith))

  bus_part : (n : ℕ) → count_below n (bus_differs a b) ≡ tally (part a b) (buses_below n)
  unfolding count_below tally buses_below
  bus_part zero = refl
  bus_part (suc c) = rw (width_bus (source_at c) (omega arith)) (ap (λ (m : ℕ). cond (bus_differs a b c) 1 0 + m) (bus_part c))

  pub parts_counted : length (differing parts a b) ≡ count_below 100 (parameter_differs a b) + count_below 10 (bus_differs a b)
  parts_counted =
      let fields_so =
      sym (tally_same (byte a b) (part a b) 96 8 field_part) ∙ ap (tally (byte a b)) (sym in_order) ∙ sort_tally (byte a b) (places 100)
      ∙ sym (by_place a b 100) in
      let buses_so = sort_tally (part a b) (buses_below 10) ∙ sym (bus_part 10) in
      let all = differ_tally a b parts ∙ ap (tally (part a b)) all_parts ∙ tally_append (part a b) (up_from 96 8) (sort (buses_below 10)) in
      omega (arith, all, fields_so, buses_so)
