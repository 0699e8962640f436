-- A pass over the parts by their places: what is left at each, and the edits for it.
use mathlib.Core.Path.{◌≡◌, refl, ap, ◌∙◌}
use mathlib.Core.Bool.{Bool, true, false, cond}
use mathlib.Core.List.{List, [], ◌∷◌, map}
use Prim.Native.Nat.{ℕ, suc, ◌+◌, ◌-◌, ◌/◌, ◌≤◌, ◌<◌}
use native.Mathlib.Omega.{arith}
use lib.ListN.{length, length-append}
use borrow.Author.Tests.{lt-ltb, le-ltb}
use Rattle.std.specs.Prelude.{Option, Some, None}
use Rattle.fields.specs.declared.Parameter.{Parameter}
use Rattle.fields.specs.Fields.{parameter_at, parameter_of}
use Rattle.fields.specs.code.Lookups.{found_parameter}
use Rattle.fields.proofs.Rules.{parameter_known}
use Rattle.edit_lists.specs.Lists.{message_for, list_bytes}
use Rattle.edit_lists.specs.Plan.{width_of, parts_from, parts, same_at, differing, reaching, plan}
use Rattle.edit_lists.specs.code.Left.{IsPart, Stands, count_left, parts_left, length_at}
use Rattle.edit_lists.proofs.Parts.{Tiles, parts_tile, width_field, width_bus}
use Rattle.edit_lists.proofs.Lists.{by_order}

-- A part ends within the patch.
pub part_end : (k : ℕ) → IsPart k → (1 ≤ width_of k) × (k + width_of k ≤ 134)
part_end k p = (grind (arith, width_field k, width_bus k), grind (arith, width_field k, width_bus k))

-- A place from 8 to 103 has a parameter, and the code finds it.
module _ (k : ℕ) (f : Option Parameter) (e : f ≡ found_parameter (parameter_of k)) (l : 8 ≤ k) (h : k < 104) where
  found : f ≡ Some (record { 0 = parameter_at k })
  found = e ∙ ap found_parameter (parameter_known k l h)

  pub found_number : (n : Parameter) → f ≡ Some n → n.0 ≡ parameter_at k
  found_number n t = let q = found in cc

  pub found_some : f ≡ None → ⊥
  found_some t = let q = found in let z : ◌≡◌ {A = ℕ} 0 1 = cc in omega arith

-- A bus is reached behind the last parameter and behind a bus that is not the last.
pub stands_next : (k : ℕ) → IsPart k → Stands (k + width_of k)
stands_next k p =
    (omega arith, (part_end k p).1, λ u. grind (arith, width_field k, width_bus k))

count_field : (k : ℕ) → k < 104 → count_left k ≡ 114 - k
unfolding count_left
count_field k h = rw (lt-ltb k 104 h)

count_bus : (k : ℕ) → 104 ≤ k → count_left k ≡ (134 - k) / 3
unfolding count_left
count_bus k h = rw (le-ltb k 104 h)

count_next : (k : ℕ) → IsPart k → count_left k ≡ suc (count_left (k + width_of k))
count_next k p =
    let next = k + width_of k in
    grind (arith, width_field k, width_bus k, count_field k, count_bus k, count_field next, count_bus next)

pub left_start : parts_left 8 ≡ parts
unfolding parts_left count_left parts
left_start = refl

pub left_next : (k : ℕ) → IsPart k → parts_left k ≡ k ∷ parts_left (k + width_of k)
unfolding parts_left parts_from
left_next k p = ap (λ (n : ℕ). parts_from n k) (count_next k p)

pub left_none : parts_left 134 ≡ []
unfolding parts_left count_left parts_from
left_none = refl

-- A message is as long as its kind's are.
pub message_length : (b : List ℕ) (k : ℕ) → IsPart k → length (message_for (reaching b k)) ≡ length_at k
message_length b k p = by_order k 104 (λ h. rw (lt-ltb k 104 h) refl) (λ h. rw (le-ltb k 104 h) refl)

-- The sum of a number for each of some parts.
unfoldable pub sum_of : (ℕ → ℕ) → List ℕ → ℕ
sum_of f [] = 0
sum_of f (k ∷ ks) = f k + sum_of f ks

-- Where each part adds at most so many bytes to a text, the text of those that differ has at most the sum for all.
module _ (text : List ℕ → List ℕ) (most : ℕ → ℕ) (adds : (k : ℕ) (ks : List ℕ) → IsPart k → length (text (k ∷ ks)) ≤ most k + length (text ks)) where
  most_of : (ks : List ℕ) (m n : ℕ) (a b : List ℕ) → Tiles m n ks → length (text (differing ks a b)) ≤ sum_of most ks + length (text [])
  unfolding differing sum_of
  most_of [] m n a b t = omega arith
  most_of (k ∷ ks) m n a b t = go (same_at k a b) (most_of ks (m + width_of k) n a b t.2)
    where
      go : (s : Bool) → length (text (differing ks a b)) ≤ sum_of most ks + length (text [])
          → length (text (cond s (differing ks a b) (k ∷ differing ks a b))) ≤ most k + sum_of most ks + length (text [])
      go true h = omega arith
      go false h = omega (arith, adds k (differing ks a b) t.1)

  pub most_changes : (a b : List ℕ) → length (text (differing parts a b)) ≤ sum_of most parts + length (text [])
  most_changes a b = most_of parts 8 134 a b parts_tile

-- So no list of edits is longer than that for all parts.
all_bytes : sum_of length_at parts ≡ 762
unfolding sum_of parts parts_from
all_bytes = refl

abbrev edit_bytes : List ℕ → List ℕ → List ℕ
edit_bytes b ks = list_bytes (map (reaching b) ks)

edit_adds : (b : List ℕ) (k : ℕ) (ks : List ℕ) → IsPart k → length (edit_bytes b (k ∷ ks)) ≤ length_at k + length (edit_bytes b ks)
unfolding list_bytes
edit_adds b k ks p = rw (length-append, message_length b k p) (omega arith)

pub list_most : (a b : List ℕ) → length (list_bytes (plan a b)) ≤ 762
unfolding plan list_bytes
list_most a b = omega (arith, all_bytes, most_changes (edit_bytes b) length_at (edit_adds b) a b)
