-- The planner's edits rise: each changes the part that it is for, and the parts rise.
use mathlib.Core.Path.{◌≡◌, refl, sym, ap}
use mathlib.Core.Bool.{Bool, true, false}
use mathlib.Core.List.{List, [], ◌∷◌, map}
use mathlib.Core.Logic.{◌⊎◌, inl, inr}
use mathlib.Core.Option.{some}
use Prim.Native.Nat.{ℕ, suc, ◌+◌, ◌≤◌, ◌<◌}
use Rattle.patch.specs.Patch.{source_at}
use native.Mathlib.Omega.{arith}
use borrow.Author.Tests.{lt-ltb, le-ltb}
use Rattle.fields.proofs.Rules.{parameter_place}
use Rattle.edit_lists.specs.Lists.{Edit}
use Rattle.edit_lists.specs.Plan.{width_of, parts, same_at, differing, bus_at, reaching, plan}
use Rattle.edit_lists.specs.promises.Shortest.{changed_at, Rises}
use Rattle.edit_lists.specs.code.Left.{IsPart}
use Rattle.edit_lists.proofs.Parts.{Tiles, parts_tile, part_kind, width_field, width_bus, differing_same, differing_other}

-- The edit for a part changes it.
changes_there : (b : List ℕ) (k : ℕ) → IsPart k → changed_at (reaching b k) ≡ some k
changes_there b k p = go (part_kind k p)
  where
    go : (k < 104) ⊎ ((104 ≤ k) × (k ≡ source_at (bus_at k)) × (bus_at k < 10)) → changed_at (reaching b k) ≡ some k
    go (inl h) = rw (lt-ltb k 104 h) (parameter_place k p.0 h)
    go (inr h) = rw (le-ltb k 104 h.0) (ap some (sym h.1))

-- Edits that rise from a place rise from one before it.
rises_from : (m n : ℕ) (es : List Edit) → m ≤ n → Rises n es → Rises m es
rises_from m n [] h r = tt
rises_from m n (e ∷ es) h r = let l = r.2 in (r.0, r.1, omega arith, r.3)

wide : (k : ℕ) → IsPart k → suc k ≤ k + width_of k
wide k p = grind (arith, width_field k, width_bus k)

parts_rise : (ks : List ℕ) (m n : ℕ) (a b : List ℕ) → Tiles m n ks → Rises m (map (reaching b) (differing ks a b))
parts_rise [] m n a b t = unfold differing in tt
parts_rise (k ∷ ks) m n a b t =
    let at = t.0 in
    let w = wide k t.1 in
    let later = parts_rise ks (m + width_of k) n a b t.2 in
    let es = map (reaching b) (differing ks a b) in
    go (same_at k a b) refl (rises_from m (m + width_of k) es (omega arith) later) (rises_from (suc k) (m + width_of k) es (omega arith) later)
  where
    go : (s : Bool) → same_at k a b ≡ s → Rises m (map (reaching b) (differing ks a b)) → Rises (suc k) (map (reaching b) (differing ks a b))
        → Rises m (map (reaching b) (differing (k ∷ ks) a b))
    go true q r later = rw (differing_same k ks a b q) r
    go false q r later = let at = t.0 in rw (differing_other k ks a b q) (k, changes_there b k t.1, omega arith, later)

pub rising : (a b : List ℕ) → Rises 8 (plan a b)
unfolding plan
rising a b = parts_rise parts 8 134 a b parts_tile
