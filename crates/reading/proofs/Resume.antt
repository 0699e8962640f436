-- Calls of the listing, each from the end of the last report, make the reports of the stream one after the other and come to an end:
-- the reports from a place on are those that a call makes and those from its end on, and each report ends past its start.
use mathlib.Core.Path.{◌≡◌, refl, sym, ap, ◌∙◌}
use mathlib.Core.List.{List, [], ◌∷◌, ◌++◌}
use mathlib.Core.Logic.{◌↔◌}
use Prim.Native.Nat.{ℕ, zero, suc, ◌+◌, ◌*◌, ◌/◌, ◌<◌, ◌≤◌}
use native.Mathlib.Decide.{dec_le}
use native.Mathlib.Omega.{arith}
use lib.ListN.{length, take, drop, length-append, length-drop, drop_of_length-le}
use lib.Seq.{take-nil, take_all, take-take, drop-drop}
use Rattle.answers.specs.Lists.{All}
use Rattle.streams.specs.Stream.{Report}
use Rattle.streams.specs.code.Scan.{outside, scan}
use Rattle.streams.specs.promises.Order.{InOrder}
use Rattle.streams.proofs.Walk.{Walked, nothing, message, walked, reports_scan, scan_order}
use Rattle.messages.specs.Judge.{judge}
use Rattle.reading.specs.code.Rooms.{width, end_of, most, made, Makes, reports_by_calls, CallsMakeReports}
use Rattle.reading.specs.declared.listing.Listed.{Listed}
use Rattle.reading.proofs.Rooms.{take_most, made_fits}

-- The reports from a place on.
abbrev from : List ℕ → ℕ → List Report
from s p = scan judge p outside (drop p s)

-- The first n of them, and those from the end of the last on.
resume_take : (n : ℕ) (s : List ℕ) (p : ℕ) → from s p ≡ take n (from s p) ++ from s (end_of p (take n (from s p)))
unfolding end_of
resume_take zero s p = refl
resume_take (suc n) s p = by_walk (walked judge (drop p s) p) (resume_take n s)
  where
    by_walk : Walked judge p (drop p s) → ((q : ℕ) → from s q ≡ take n (from s q) ++ from s (end_of q (take n (from s q))))
        → from s p ≡ take (suc n) (from s p) ++ from s (end_of p (take (suc n) (from s p)))
    by_walk (nothing e₁ e₂) i = rw e₂ (sym e₂)
    by_walk (message r e q) i =
        let rest : from s p ≡ r ∷ from s (p + q.taken) = q.rest ∙ rw (drop-drop q.taken p s) in
        let more = take n (from s (p + q.taken)) in
        let behind : from s (p + q.taken) ≡ more ++ from s (end_of r.end more) = rw q.ends (i (p + q.taken)) in
        rw rest (ap (λ (l : List Report). r ∷ l) behind)

-- How many reports one call makes at most: at least one where the room has place for one.
record AtMost (s : List ℕ) (p : ℕ) (room : List ℕ) : Type 0 where
  number : ℕ
  taken : made s p room ≡ take number (from s p)
  some : width ≤ length room → 0 < number

most_of : (s : List ℕ) (p : ℕ) (room : List ℕ) → AtMost s p room
unfolding made
most_of s p room = by_room (dec_le most (length room / width))
  where
    by_room : Dec (most ≤ length room / width) → AtMost s p room
    by_room (yes h) = record { number = most; taken = take-take most (length room / width) (from s p) h; some = λ _. omega arith }
    by_room (no h) =
        record {
          number = length room / width;
          taken = take_all most (take (length room / width) (from s p)) (omega (arith, take_most (length room / width) (from s p), h));
          some = λ k. omega arith;
        }

-- The reports from a place on are those that one call makes and then those from its end on.
pub resume : (s : List ℕ) (p : ℕ) (room : List ℕ)
    → scan judge p outside (drop p s) ≡ made s p room ++ scan judge (end_of p (made s p room)) outside (drop (end_of p (made s p room)) s)
resume s p room = let m = most_of s p room in rw m.taken (resume_take m.number s p)

-- Reports in order, the first n of them.
order_take : (n : ℕ) (l : List Report) (p e : ℕ) → InOrder p e l → InOrder p e (take n l)
order_take zero l p e o = tt
order_take (suc n) [] p e o = tt
order_take (suc n) (r ∷ l) p e o = (o.0, o.1, o.2, order_take n l r.end e o.3)

-- The last of reports in order ends at least a place further for each of them, and within the bytes.
order_end : (l : List Report) (p e : ℕ) → p ≤ e → InOrder p e l → (p + length l ≤ end_of p l) × (end_of p l ≤ e)
unfolding end_of
order_end [] p e h o = (omega arith, h)
order_end (r ∷ l) p e h o = let i = order_end l r.end e o.2 o.3 in (omega arith, i.1)

-- A call from a place of the input goes on a byte or more for each report, and not past the input.
pub next_within : (s : List ℕ) (p : ℕ) (room : List ℕ) → p ≤ length s
    → (p + length (made s p room) ≤ end_of p (made s p room)) × (end_of p (made s p room) ≤ length s)
next_within s p room h =
    let m = most_of s p room in
    let whole : p + length (drop p s) ≡ length s = omega (arith, length-drop p s) in
    let order = order_take m.number (from s p) p (length s) (rw whole at (scan_order judge (drop p s) p)) in
    rw m.taken (order_end (take m.number (from s p)) p (length s) h order)

-- Past the input there is no report.
none_past : (s : List ℕ) (p : ℕ) → length s ≤ p → from s p ≡ []
none_past s p h = rw (drop_of_length-le s {i = p} h)

-- A call that makes a report ends further on, and not past the input.
pub next_grows : (s : List ℕ) (p : ℕ) (room : List ℕ) → (made s p room ≡ [] → ⊥)
    → (p < end_of p (made s p room)) × (end_of p (made s p room) ≤ length s)
next_grows s p room n = by_place (dec_le p (length s))
  where
    some_made : (l : List Report) → (l ≡ [] → ⊥) → 0 < length l
    some_made [] k = absurd (k refl)
    some_made (r ∷ l) k = omega arith

    by_place : Dec (p ≤ length s) → (p < end_of p (made s p room)) × (end_of p (made s p room) ≤ length s)
    by_place (yes h) = let w = next_within s p room h in let k = some_made (made s p room) n in (omega arith, w.1)
    by_place (no h) =
        let m = most_of s p room in
        let past : length s ≤ p = omega (arith, h) in
        absurd (n (m.taken ∙ rw (none_past s p past) (take-nil m.number)))

-- With room for a report, a call makes none exactly when none is left.
pub all_made : (s : List ℕ) (p : ℕ) (room : List ℕ) → width ≤ length room → (made s p room ≡ []) ↔ (scan judge p outside (drop p s) ≡ [])
all_made s p room h =
    let m = most_of s p room in
    ((λ e. by_number m.number (from s p) (m.some h) (sym m.taken ∙ e)), λ e. m.taken ∙ rw e (take-nil m.number))
  where
    by_number : (n : ℕ) (l : List Report) → 0 < n → take n l ≡ [] → l ≡ []
    by_number zero l k e = absurd (omega arith)
    by_number (suc n) [] k e = refl
    by_number (suc n) (r ∷ l) k e = cc

module _ (s : List ℕ) where
  -- Where no report is left, no call makes one.
  calls_none : (rooms : List (List ℕ)) (p : ℕ) → All (λ room. width ≤ length room) rooms → scan judge p outside (drop p s) ≡ []
      → reports_by_calls s p rooms ≡ []
  unfolding end_of
  calls_none [] p h e = refl
  calls_none (room ∷ rooms) p h e = rw ((all_made s p room h.0).1 e) (calls_none rooms p h.1 e)

  -- Calls from a place on, as many as there are bytes left, make the reports from there on.
  calls_scan : (rooms : List (List ℕ)) (p : ℕ) → All (λ room. width ≤ length room) rooms → length s ≤ length rooms + p
      → reports_by_calls s p rooms ≡ scan judge p outside (drop p s)
  calls_scan [] p h k = sym (none_past s p (omega arith))
  calls_scan (room ∷ rooms) p h k = by_made (made s p room) refl (λ q. calls_scan rooms q h.1)
    where
      by_made : (l : List Report) → made s p room ≡ l → ((q : ℕ) → length s ≤ length rooms + q → reports_by_calls s q rooms ≡ scan judge q outside (drop q s))
          → reports_by_calls s p (room ∷ rooms) ≡ scan judge p outside (drop p s)
      by_made [] e i = let none = (all_made s p room h.0).0 e in calls_none (room ∷ rooms) p h none ∙ sym none
      by_made (r ∷ l) e i =
          let grows = next_grows s p room (λ z. let c : ◌≡◌ {A = List Report} (r ∷ l) [] = sym e ∙ z in let x : ◌≡◌ {A = ℕ} 0 1 = cc in omega arith) in
          ap (λ (w : List Report). made s p room ++ w) (i (end_of p (made s p room)) (omega arith)) ∙ sym (resume s p room)

-- Calls from 0 on, each from the end of the last, make the reports of the stream.
pub calls_reports : CallsMakeReports
calls_reports s rooms h k = calls_scan s rooms 0 h (omega arith) ∙ sym (reports_scan judge s)

-- What a caller knows of a call from a place of the input: it goes on a byte or more for each report, within the input; the reports fit
-- the room; those left are left from its end on; and with room for one, a call that makes none leaves none.
pub record Goes (s : List ℕ) (p : ℕ) (room : List ℕ) (r : Listed) : Type 0 where
  pub further : p + r.count ≤ r.next
  pub within : r.next ≤ length s
  pub fits : width * r.count ≤ length room
  pub left : length (scan judge p outside (drop p s)) ≡ r.count + length (scan judge r.next outside (drop r.next s))
  pub last : width ≤ length room → r.count ≡ 0 → length (scan judge p outside (drop p s)) ≡ 0

pub goes : (s : List ℕ) (p : ℕ) (old new : List ℕ) (r : Listed) → p ≤ length s → Makes s p old new r → Goes s p old r
goes s p old new r h m =
    let w = next_within s p old h in
    let c = m.holds.count in
    record {
      further = rw (c, m.next) w.0;
      within = rw m.next w.1;
      fits = made_fits s p old new r.count m.holds;
      left = rw (c, m.next) (ap length (resume s p old) ∙ simp length-append);
      last = λ k z. rw ((all_made s p old k).0 (no_length (made s p old) (sym c ∙ z))) refl;
    }
  where
    no_length : (l : List Report) → length l ≡ 0 → l ≡ []
    no_length [] e = refl
    no_length (x ∷ l) e = absurd (omega arith)
