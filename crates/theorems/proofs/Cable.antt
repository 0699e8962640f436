-- What holds of the reports of a file holds of what a reader gives: both are one list. Demand 3's parts of the two lists of reports are its parts here.
use mathlib.Core.Path.{◌≡◌, refl, sym, ap, ◌∙◌}
use mathlib.Core.Bool.{Bool, true, false, cond, ◌&&◌}
use mathlib.Core.List.{List, [], ◌∷◌, ◌++◌, map}
use Prim.Native.Nat.{ℕ, ◌+◌, ◌-◌}
use native.Mathlib.Omega.{arith}
use lib.Dec.{leb, ltb}
use lib.ListN.{length}
use borrow.Author.Tests.{leb-true, ltb-true}
use Rattle.answers.specs.Lists.{All}
use Rattle.answers.specs.Table.{Verdict, done, refused, outcome_of}
use Rattle.answers.specs.Table as table
use Rattle.answers.proofs.Lists.{all_weaken}
use Rattle.streams.specs.Stream.{Report, reports, packed_in}
use Rattle.streams.specs.promises.Noise.{Heard}
use Rattle.messages.specs.Judge.{judge}
use Rattle.cable.specs.promises.Cuts.{Entry, entry_of}
use Rattle.cable.proofs.Cuts.{every_cut}
use Rattle.cable.proofs.Answers.{answers}
use Rattle.theorems.specs.Damage.{keep, counted_back, stream, reports_before, reports_of_dump, reports_after}
use Rattle.theorems.specs.Damage.{Contained}
use Rattle.theorems.specs.Cable.{from_cable, Cut, answer_of, Said, entry_back, ContainedFrom, FromTheCable}
use Rattle.theorems.proofs.Damage.{demand_3}
use Rattle.theorems.proofs.Found.{says_what_was_found}
use Rattle.theorems.proofs.Noise.{how_noisy_was_the_line}
use Rattle.theorems.proofs.Withdrawn.{no_input_gives_14}

as_file : (s ns : List ℕ) → Cut s ns → from_cable ns s ≡ map entry_of (reports judge s)
as_file s ns c = (every_cut.as_the_file s c.short).every_cut ns c.all

map_append : (a b : List Report) → map entry_of (a ++ b) ≡ map entry_of a ++ map entry_of b
map_append [] b = refl
map_append (x ∷ a) b = ap (λ (l : List Entry). entry_of x ∷ l) (map_append a b)

all_map : (P : Entry → Type 0) (l : List Report) → All (λ r. P (entry_of r)) l → All P (map entry_of l)
all_map P [] a = tt
all_map P (r ∷ l) a = (a.0, all_map P l a.1)

all_both : (P Q R : Report → Type 0) (l : List Report) → All P l → All Q l → All R l → All (λ r. (P r) × (Q r) × (R r)) l
all_both P Q R [] a b c = tt
all_both P Q R (r ∷ l) a b c = ((a.0, b.0, c.0), all_both P Q R l a.1 b.1 c.1)

back_map : (n : ℕ) (l : List Report) → map (entry_back n) (map entry_of l) ≡ map entry_of (map (counted_back n) l)
back_map n [] = refl
back_map n (r ∷ l) = ap (λ (m : List Entry). entry_of (counted_back n r) ∷ m) (back_map n l)

-- What is kept passed the test.
all_kept : (t : Report → Bool) (P : Entry → Type 0) → ((r : Report) → t r ≡ true → P (entry_of r)) → (l : List Report) → All P (map entry_of (keep t l))
all_kept t P h [] = tt
all_kept t P h (r ∷ l) = by_test (t r) refl (all_kept t P h l)
  where
    by_test : (v : Bool) → t r ≡ v → All P (map entry_of (keep t l)) → All P (map entry_of (cond v (r ∷ keep t l) (keep t l)))
    by_test true q a = (h r q, a)
    by_test false q a = a

both : (a b : Bool) → a && b ≡ true → (a ≡ true) × (b ≡ true)
both true true e = (refl, refl)
both true false e = let z : ◌≡◌ {A = ℕ} 0 1 = cc in absurd (omega arith)
both false true e = let z : ◌≡◌ {A = ℕ} 0 1 = cc in absurd (omega arith)
both false false e = let z : ◌≡◌ {A = ℕ} 0 1 = cc in absurd (omega arith)

-- A refused message has no record.
no_record : (v : Verdict) → (table.answer_of v ≡ 0 → ⊥) → packed_in v ≡ []
no_record (done o b p) n = absurd (n refl)
no_record (refused o) n = refl

module _ (before d e behind : List ℕ) (v : Verdict) (c : Contained before d e behind v) where
  contained : (whole spoilt : List Entry) → whole ≡ map entry_of (reports judge (stream before d behind)) → spoilt ≡ map entry_of (reports judge (stream before e behind))
      → ContainedFrom before d e behind v whole spoilt
  contained whole spoilt ew es =
      let dumped = reports_of_dump before e behind in
      let last = length before + length e - 1 in
      record {
        first = map entry_of (reports_before before d behind);
        refusals = map entry_of dumped;
        after = map entry_of (reports_after before d behind);
        after_damage = map entry_of (reports_after before e behind);
        undamaged = ew ∙ ap (map entry_of) c.whole ∙ map_append (reports_before before d behind) _ ∙ rw c.accepted;
        with_damage = es ∙ ap (map entry_of) c.whole_damaged ∙ map_append (reports_before before e behind) _
            ∙ rw (c.same_before, map_append dumped (reports_after before e behind));
        refused = all_map _ dumped (all_weaken (λ (r : Report). table.answer_of r.verdict ≡ 0 → ⊥) (λ (r : Report). (answer_of (entry_of r) ≡ 0 → ⊥) × ((entry_of r).1 ≡ [])) (λ (r : Report) n. (n, no_record r.verdict n)) dumped c.refused);
        same_after = back_map (length (stream before e behind)) (reports_after before e behind) ∙ ap (map entry_of) c.same_after
            ∙ sym (back_map (length (stream before d behind)) (reports_after before d behind));
        where_first = all_kept (λ r. ltb r.start (length before)) _ (λ r q. ltb-true r.start (length before) q) (reports judge (stream before d behind));
        where_refused = all_kept (λ r. leb (length before) r.start && ltb r.start last) _
            (λ r q. let w = both _ _ q in (leb-true (length before) r.start w.0, ltb-true r.start last w.1)) (reports judge (stream before e behind));
        where_after = all_kept (λ r. leb (length before + length d) r.start) _ (λ r q. leb-true (length before + length d) r.start q)
            (reports judge (stream before d behind));
        where_after_damage = all_kept (λ r. leb (length before + length e) r.start) _ (λ r q. leb-true (length before + length e) r.start q)
            (reports judge (stream before e behind));
      }

said : (s ns : List ℕ) → Cut s ns → All (Said s) (from_cable ns s)
unfolding reports
said s ns c =
    rw (as_file s ns c)
    (all_map (Said s) (reports judge s)
    (all_weaken _ (λ r. Said s (entry_of r)) (λ r h. record { value = h.0; noise = h.1.count; not_14 = h.2 }) (reports judge s)
    (all_both _ (Heard judge s) _ (reports judge s) (says_what_was_found.reports_each s 0) (how_noisy_was_the_line.reports_each s 0) (no_input_gives_14.reports_each s 0))))

pub from_the_cable : FromTheCable
from_the_cable = record {
  every_cut = every_cut;
  answers = answers;
  said = said;
  demand_3 = λ k filed patch b p given passed before behind x allowed ns ms c e.
      contained before _ _ behind _ (demand_3 k filed patch b p given passed before behind x allowed) _ _ (as_file _ ns c) (as_file _ ms e);
}
