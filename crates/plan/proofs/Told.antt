-- What is said for two files and for an input, by what the files come to.
use mathlib.Core.Path.{◌≡◌, refl, sym, ap, ◌∙◌}
use mathlib.Core.Bool.{Bool}
use mathlib.Core.List.{List, [], ◌++◌}
use Prim.Native.Nat.{ℕ, ◌+◌, ◌-◌}
use native.Mathlib.Nat.{zero-add}
use native.Mathlib.Omega.{arith}
use lib.ListN.{length, take, drop, drop_of_length-le, length-drop}
use lib.Seq.{take_all, drop-drop}
use Rattle.edit_lists.proofs.Lists.{by_order}
use Rattle.text.specs.Text.{ascii, fitting, Puts}
use Rattle.text.specs.declared.Text.{Text}
use Rattle.text.proofs.Puts.{puts_counts}
use Rattle.plan.specs.declared.Wrong.{Wrong}
use Rattle.plan.specs.Files.{Found, One, Not, found_in, patch_in, sentence}
use Rattle.plan.specs.Said.{Said, said, proposing, by_files, wants_lines, first_length, said_of}
use Rattle.std.specs.Prelude.{Ok, Err, min}
use Rattle.plan.specs.code.Written.{told, finding, PutsBoth, Says}

-- Put behind no text, both stand at the room's start.
pub says : {w : Said} {a c : Text} {old new : List ℕ} {out end : ℕ} → a.end ≡ 0 → a.room.now ≡ old → c.room.now ≡ new → end ≡ c.end
    → PutsBoth w a c out → Says w old new (record { out = out; end = end })
says {w} {a} {c} {old} {new} {out} {end} zero first last e p =
    let puts : Puts (w.out ++ w.err) old 0 new end = rw (zero, first, last, ← e) at p.gains.puts in
    let counts = puts_counts (omega arith) puts in
    let at : out ≡ length (fitting w.out old 0) = rw (zero, first, zero-add (length (fitting w.out old 0))) at p.out in
    record { out = at; puts = puts; ordered = omega (arith, p.ordered); within = counts.0 }

-- What is said for two files, by what each is told as.
told_one : (s : List ℕ) (p : List ℕ) → Ok p ≡ finding s → (found_in s ≡ One) × (p ≡ patch_in s)
told_one s p e = go (found_in s) refl e
  where
    go : (f : Found) → found_in s ≡ f → Ok p ≡ told (patch_in s) f → (found_in s ≡ One) × (p ≡ patch_in s)
    go One q t = (q, cc)
    go (Not w) q t = cc

told_wrong : (s : List ℕ) (w : Wrong) → Err w ≡ finding s → found_in s ≡ Not w
told_wrong s w e = go (found_in s) refl e
  where
    go : (f : Found) → found_in s ≡ f → Err w ≡ told (patch_in s) f → found_in s ≡ Not w
    go One q t = cc
    go (Not v) q t = q ∙ cc

module _ (lines : Bool) (returned lent : List ℕ) where
  pub first_fails : (w : Wrong) → Err w ≡ finding returned → by_files lines returned lent ≡ said [] (ascii "returned: " ++ sentence w)
  unfolding by_files
  first_fails w e = rw (told_wrong returned w e) refl

  pub both_are_one : found_in returned ≡ One → found_in lent ≡ One → by_files lines returned lent ≡ proposing lines (patch_in returned) (patch_in lent)
  unfolding by_files
  both_are_one e f = rw (e, f) refl

  module _ (a : List ℕ) (e : Ok a ≡ finding returned) where
    pub second_fails : (w : Wrong) → Err w ≡ finding lent → by_files lines returned lent ≡ said [] (ascii "lent: " ++ sentence w)
    unfolding by_files
    second_fails w f = rw ((told_one returned a e).0, told_wrong lent w f) refl

    pub both_found : (b : List ℕ) → Ok b ≡ finding lent → by_files lines returned lent ≡ proposing lines a b
    both_found b f =
        let one = told_one returned a e in
        let other = told_one lent b f in
        rw (one.1, other.1) (both_are_one one.0 other.0)

-- A place in bytes, their end where they have fewer.
from_place : (i : ℕ) (s : List ℕ) → drop (min i (length s)) s ≡ drop i s
from_place i s =
    by_order i (length s) (λ h. let e : min i (length s) ≡ i = omega arith in rw e refl)
    (λ h. let e : min i (length s) ≡ length s = omega arith in rw (e, drop_of_length-le s h) (drop_of_length-le s (omega arith)))

-- The bytes between two of them.
cut : (i n : ℕ) (s : List ℕ) → take (min (i + n) (length s) - min i (length s)) (drop (min i (length s)) s) ≡ take n (drop i s)
cut i n s =
    let few = length-drop i s in
    let most = min (i + n) (length s) - min i (length s) in
    rw (from_place i s)
    (by_order (i + n) (length s) (λ h. let e : most ≡ n = omega arith in ap (λ (m : ℕ). take m (drop i s)) e)
    (λ h. take_all most (drop i s) (omega arith) ∙ sym (take_all n (drop i s) (omega arith))))

-- The two files of an input, as the code takes them apart.
pub files : (s l : List ℕ) (lines : Bool) (n from to : ℕ) → lines ≡ wants_lines s → n ≡ first_length s → from ≡ min 4 (length s)
    → to ≡ min (4 + n) (length s) → l ≡ drop to s → by_files lines (take (to - from) (drop from s)) l ≡ said_of s
unfolding said_of
files s l lines n from to wants first f t e =
    let rest = from_place (4 + n) s ∙ sym (drop-drop n 4 s) in
    rw (wants, e, f, t, cut 4 n s, rest, first)
