-- Reports in lent room: none, one, or one and then those of the part behind it.
use mathlib.Core.Path.{◌≡◌, refl, sym, ap, ◌∙◌, subst}
use mathlib.Core.List.{List, [], ◌∷◌, ◌++◌, append_assoc}
use Prim.Native.Nat.{ℕ, zero, suc, ◌+◌, ◌-◌, ◌*◌, ◌/◌, ◌<◌, ◌≤◌}
use native.Mathlib.Omega.{arith}
use lib.ListN.{length, take, drop, get_or, length-drop, take-append-drop, drop_of_length-le}
use lib.Seq.{take-nil, take_all, take-take, length-take-le, drop-append-le, get_or-append-add}
use borrow.Rule.Slice.PartMut.{put_mid}
use lib.IntN.{ℤ}
use mir.Syntax.{w16}
use mir.Val.{SFits}
use Rattle.answers.specs.Lists.{All}
use Rattle.answers.specs.code.Numbers.{as_number, of_number}
use Rattle.answers.proofs.Lists.{to_end, then_part}
use Rattle.answers.proofs.Signed.{number_back}
use Rattle.streams.specs.Bytes.{body}
use Rattle.streams.specs.Stream.{Report, message_at}
use Rattle.streams.specs.code.Scan.{State, outside, inside, scan}
use Rattle.messages.specs.Judge.{judge}
use Rattle.reading.specs.code.Rooms.{numbers_of, width, flat, fitting, ReadsBack, Holds, end_of, most, made, Makes, StandIn, RoomTells}
use Rattle.reading.specs.code.Told.{report_of}
use Rattle.reading.specs.declared.walking.Report.{Report as Numbers}

pub length_flat : (rs : List Report) → length (flat rs) ≡ width * length rs
unfolding flat
length_flat [] = refl
length_flat (r ∷ rs) = omega (arith, length_flat rs)

-- No room for a report, and no report.
pub lists_full : (rs : List Report) (old : List ℕ) → length old < width → Holds (fitting old rs) old old 0
unfolding flat
lists_full rs old h =
    let e : length old / width ≡ 0 = omega arith in
    record { count = rw e; numbers = rw e; values = rw e tt }

pub lists_none : (old : List ℕ) → Holds (fitting old []) old old 0
unfolding flat
lists_none old = let e = take-nil {A = Report} (length old / width) in record { count = rw e; numbers = rw e; values = rw e tt }

-- No more reports than there is place for.
pub take_most : (n : ℕ) (rs : List Report) → length (take n rs) ≤ n
take_most zero rs = omega arith
take_most (suc n) [] = omega arith
take_most (suc n) (r ∷ rs) = omega (arith, take_most n rs)

take_le : (n : ℕ) (rs : List Report) → length (take n rs) ≤ length rs
take_le zero rs = omega arith
take_le (suc n) [] = omega arith
take_le (suc n) (r ∷ rs) = omega (arith, take_le n rs)

-- The reports in the part of a room behind its first report.
abbrev pub PartHolds : List ℕ → List Report → List ℕ → ℕ → Type 0
PartHolds xs rs ys k = let part = take (length xs - width) (drop width xs) in Holds (fitting part rs) part ys k

-- One report at the start, and the others in the part behind it.
module _ (r : Report) (rs : List Report) (old xs : List ℕ) (h : width ≤ length old) (e : xs ≡ numbers_of r ++ drop width old) (tells : ReadsBack r) where
  rest : ℕ
  rest = (length old - width) / width

  room : length old / width ≡ suc rest
  unfolding rest
  room = omega arith

  same_length : length xs ≡ length old
  same_length = ap length e ∙ omega (arith, length-drop width old)

  part_room : length (take (length xs - width) (drop width xs)) / width ≡ rest
  unfolding rest
  part_room = omega (arith, ap length (to_end width xs), length-drop width xs, same_length)

  pub lists_more : (ys : List ℕ) (k : ℕ) → PartHolds xs rs ys k
      → Holds (fitting old (r ∷ rs)) old (put_mid width (length xs - width) xs ys) (1 + k)
  unfolding flat rest
  lists_more ys k l =
      let made = take rest rs in
      let count : k ≡ length made = rw part_room at l.count in
      let fits : width + width * length made ≤ length old = omega (arith, take_most rest rs) in
      let more : width * suc (length made) ≡ width + width * length made = omega arith in
      record {
        count = rw room (omega arith);
        numbers =
            rw (room, more)
            (then_part (numbers_of r) (flat made) old xs ys width (width * length made) refl (length_flat made) fits e (rw part_room at l.numbers));
        values = rw room (tells, rw part_room at l.values);
      }

-- The scan gives a message's report, then goes on at place q behind the byte that ended the body, n bytes on, in a state st.
module _ (s : List ℕ) (f : ℕ) (old xs : List ℕ) (h : width ≤ length old) (e : xs ≡ numbers_of (message_at judge f s) ++ drop width old)
    (tells : ReadsBack (message_at judge f s)) where
  pub lists_on : (n : ℕ) → n ≡ length (body s) → (st : ℕ → State) (q : ℕ) → q ≡ suc (f + 1 + n)
      → scan judge (suc f) (inside f [] 0) s
      ≡ message_at judge f s ∷ scan judge (suc (suc f + length (body s))) (st (suc f + length (body s))) (drop (length (body s) + 1) s)
      → (ys : List ℕ) (k : ℕ) → PartHolds xs (scan judge q (st (f + 1 + n)) (take (length s - (n + 1)) (drop (n + 1) s))) ys k
      → Holds (fitting old (scan judge (suc f) (inside f [] 0) s)) old (put_mid width (length xs - width) xs ys) (1 + k)
  lists_on n index st q next on ys k l =
      let place : f + 1 + length (body s) ≡ suc f + length (body s) = omega arith in
      rw on (lists_more (message_at judge f s) _ old xs h e tells ys k (rw (to_end (n + 1) s, next, index, place) at l))

-- One report and no other.
pub lists_one : (r : Report) (old xs : List ℕ) → width ≤ length old → xs ≡ numbers_of r ++ drop width old → ReadsBack r
    → Holds (fitting old (r ∷ [])) old xs 1
unfolding flat
lists_one r old xs h e tells =
    let room : length old / width ≡ suc ((length old - width) / width) = omega arith in
    let one = take-nil {A = Report} ((length old - width) / width) in
    record { count = rw (room, one); numbers = e ∙ rw (room, one); values = rw (room, one) (tells, tt) }

-- There are no more of them than the part has numbers.
pub part_fits : (xs : List ℕ) (rs : List Report) {ys : List ℕ} {k : ℕ} → PartHolds xs rs ys k → k ≤ length xs - width
part_fits xs rs {ys} {k} l =
    let part = take (length xs - width) (drop width xs) in
    omega (arith, l.count, take_most (length part / width) rs, ap length (to_end width xs), length-drop width xs)

-- A report's value, which the code has in 16 bits, is told.
pub value_told : (m : Report) (r : Numbers) → r ≡ report_of m → SFits w16 r.outcome.value → ReadsBack m
value_told m r e f = subst (λ (v : ℤ). of_number (as_number v) ≡ v) (ap (λ (x : Numbers). x.outcome.value) e) (number_back r.outcome.value f)

-- At most 8 of the reports, from a larger room of which the first part was lent, and from a smaller one.
module _ (s : List ℕ) (place : ℕ) where
  all : List Report
  all = scan judge place outside (drop place s)

  pub fills_part : (old part : List ℕ) (n : ℕ) → (most * width) < length old
      → Holds (fitting (take (most * width) old) (scan judge place outside (drop place s))) (take (most * width) old) part n
      → Holds (made s place old) old (part ++ drop (most * width) old) n
  unfolding made all
  fills_part old part n h l =
      let few : length (take (most * width) old) ≡ (most * width) = length-take-le (most * width) old (omega arith) in
      let lent : length (take (most * width) old) / width ≡ most = omega arith in
      let same : take most (take (length old / width) all) ≡ take most all = take-take most (length old / width) all (omega arith) in
      let m = length (take most all) in
      let fits : width * m ≤ length (take (most * width) old) = omega (arith, take_most most all) in
      let kept : drop (width * m) (take (most * width) old) ++ drop (most * width) old ≡ drop (width * m) old =
      sym (drop-append-le (width * m) (take (most * width) old) (drop (most * width) old) fits) ∙ ap (drop (width * m)) (take-append-drop (most * width) old) in
      record {
        count = rw same (rw lent at l.count);
        numbers =
            let joined = append_assoc (flat (take most all)) (drop (width * m) (take (most * width) old)) (drop (most * width) old) in
            rw same (rw (rw lent at l.numbers, joined, kept) refl);
        values = rw same (rw lent at l.values);
      }

  pub fills_whole : (old new : List ℕ) (n : ℕ) → length old ≤ (most * width) → Holds (fitting old (scan judge place outside (drop place s))) old new n
      → Holds (made s place old) old new n
  unfolding made
  fills_whole old new n h l =
      let rs = take (length old / width) (scan judge place outside (drop place s)) in
      let same : take most rs ≡ rs = take_all most rs (omega (arith, take_most (length old / width) (scan judge place outside (drop place s)))) in
      record { count = rw same l.count; numbers = rw same l.numbers; values = rw same l.values }

-- The last report's end stands at the second of its numbers.
pub last_end : (rs : List Report) (p : ℕ) (more : List ℕ) → 0 < length rs → get_or (flat rs ++ more) (width * length rs - (width - 1)) 0 ≡ end_of p rs
unfolding flat end_of
last_end [] p more h = absurd (omega arith)
last_end (r ∷ []) p more h = refl
last_end (r ∷ q ∷ rs) p more h =
    let before = width * suc (length rs) - (width - 1) in
    let e : width * suc (suc (length rs)) - (width - 1) ≡ length (numbers_of r) + before = omega arith in
    rw e (get_or-append-add (numbers_of r) (flat (q ∷ rs) ++ more) before 0 ∙ last_end (q ∷ rs) r.end more (omega arith))

-- Past the end of the input no report is made.
pub makes_none : (s : List ℕ) (place : ℕ) (room : List ℕ) → length s ≤ place → Makes s place room room (record { count = 0; next = place })
unfolding made flat end_of
makes_none s place room h =
    let none : drop place s ≡ [] = drop_of_length-le s h in
    let nothing : take most (take (length room / width) (scan judge place outside (drop place s))) ≡ [] = rw (none, take-nil (length room / width)) in
    record { holds = record { count = rw nothing; numbers = rw nothing; values = rw nothing tt }; next = rw nothing }

-- Where no report was made, or some, from where to go on.
module _ (s : List ℕ) (place : ℕ) (old new : List ℕ) (n : ℕ) (f : Holds (made s place old) old new n) where
  pub makes_zero : n ≡ 0 → Makes s place old new (record { count = 0; next = place })
  unfolding end_of
  makes_zero z = by_made (made s place old) refl f.count
    where
      by_made : (rs : List Report) → made s place old ≡ rs → n ≡ length rs → Makes s place old new (record { count = 0; next = place })
      by_made [] e c = record { holds = rw z at f; next = rw e }
      by_made (r ∷ rs) e c = absurd (omega arith)

  pub makes_some : (n ≡ 0 → ⊥) → Makes s place old new (record { count = n; next = get_or new (width * n - (width - 1)) 0 })
  makes_some h =
      let m = made s place old in
      let c = f.count in
      let some_made : 0 < length m = omega arith in
      record { holds = f; next = rw (f.numbers, c) (last_end m place (drop (width * length m) old) some_made) }

  pub made_fits : width * n ≤ length old
  unfolding made
  made_fits =
      let rs = scan judge place outside (drop place s) in
      omega (arith, f.count, take_le most (take (length old / width) rs), take_most (length old / width) rs)

-- What stands in the room is read back, report by report.
stand_in : (rs : List Report) (more : List ℕ) → All ReadsBack rs → StandIn rs (flat rs ++ more)
unfolding flat
stand_in [] more a = tt
stand_in (r ∷ rs) more a = (rw a.0, stand_in rs more a.1)

pub room_tells : RoomTells
room_tells s place old new r m =
    rw m.holds.numbers (stand_in (made s place old) (drop (width * length (made s place old)) old) m.holds.values)
