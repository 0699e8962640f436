-- The steps of a call by their parts: a message that ended, one that stays open, and none.
use mathlib.Core.Path.{◌≡◌, refl, ap, ◌∙◌}
use mathlib.Core.Bool.{true, false}
use mathlib.Core.List.{List, [], ◌++◌}
use mathlib.Core.Option.{Option, none, some}
use Prim.Native.Nat.{ℕ, min, ◌+◌, ◌-◌, ◌≤◌, ◌<◌}
use native.Mathlib.Nat.{zero-add}
use native.Mathlib.Omega.{arith}
use lib.ListN.{length, take, drop}
use lib.Seq.{take_at}
use Rattle.answers.specs.Table.{Verdict, refused, outcome}
use Rattle.answers.specs.Effect.{Gives}
use Rattle.answers.proofs.Lists.{to_end}
use Rattle.streams.specs.Bytes.{without_real_time, framed}
use Rattle.streams.specs.Stream.{Report, report}
use Rattle.streams.specs.Feed.{Taken, taking, taken}
use Rattle.streams.specs.code.Scan.{State, outside, inside}
use Rattle.frames.specs.declared.Span.{Span}
use Rattle.frames.specs.code.Extent.{ahead, span_of}
use Rattle.frames.proofs.Extent.{ahead_within}
use Rattle.frames.proofs.Feeding.{fed_cut, fed_closed, fed_broken, fed_none, fed_found}
use Rattle.messages.specs.Judge.{judge}
use Rattle.messages.proofs.Long.{judge_kept}
use Rattle.frames.specs.declared.Ending.TheVariants.{Whole, Interrupted, Cut}
use Rattle.judging.specs.code.Judged.{Judged, refused_by, recorded_as}
use Rattle.judging.specs.code.Heard.{Heard, verdict_from, recorded_from}
use Rattle.judging.proofs.Spans.{verdict_cut, verdict_interrupted, verdict_judged}
use Rattle.cable.specs.declared.Cable.{Cable}
use Rattle.cable.specs.declared.Fed.{Fed}
use Rattle.cable.specs.declared.Step.{Step}
use Rattle.cable.specs.Cable.{room, cleared, resting, no_report, step_by, goes, Leaves}
use Rattle.cable.specs.code.Steps.{reported, closed_at, keeping, grown}
use Rattle.cable.proofs.Calls.{its, held_inside, goes_inside, goes_outside}
use Rattle.cable.proofs.Recorded.{Known, known_refused, known_judge, recorded}

-- The same step by another name.
pub leaves_as : (x y : Step) (c : Cable) (f : Fed) → y ≡ x → Leaves x c f → Leaves y c f
leaves_as x y c f e l = rw e l

-- A message with the verdict v that ends with n bytes taken from place p on, recorded into the cleared room.
ended_step : (old : List ℕ) (p n f k : ℕ) (v : Verdict) → Known v → (b : List ℕ) (j : Judged) → Gives (recorded_as v cleared) j b
    → (e : ℕ) → e ≡ p + n → Leaves (step_by old p (taking n outside (some (report f e v k)))) (closed_at b j e) (reported j f e k n)
ended_step old p n f k v known b j g e q =
    let r = recorded v known j b g in
    record { state = rw (r.1, q, r.0, known.size); fed = rw r.0 }

-- What is kept of a content is the first of it.
kept_content : (c : Cable) (w : List ℕ) → let k = keeping c w in take k.count k.bytes ≡ take room w
kept_content c w = take_at (take room w) _ (length (take room w)) refl

-- Inside a message, and the bytes t are fed, whose span was found.
module _ (c : Cable) (i : c.inside ≡ true) (o : c.over ≡ false) (t : List ℕ) (s : Span) (e : s ≡ span_of t) where
  abbrev before : List ℕ
  before = take c.count c.bytes

  abbrev content : List ℕ
  content = before ++ without_real_time (take s.length t)

  abbrev heard : ℕ
  heard = min c.noise c.taken

  by_taken : (u : Taken) → taken judge c.taken (its c) t ≡ u → goes c t ≡ step_by c.bytes c.taken u
  by_taken u q = goes_inside c t i ∙ rw (held_inside c i, q)

  pub follow_broken : (b : List ℕ) (j : Judged) → b ≡ cleared → j ≡ refused_by (outcome 3 0) → s.ending ≡ Interrupted
      → Leaves (goes c t) (closed_at b j (c.taken + s.length)) (reported j c.start (c.taken + s.length) (heard + s.noise) s.length)
  follow_broken b j eb ej z =
      leaves_as _ _ _ _ (by_taken _ (fed_broken judge t s e c.taken c.start before heard z))
      (ended_step c.bytes c.taken s.length c.start (heard + s.noise) (refused (outcome 3 0)) (known_refused 3 (λ y. omega arith)) b j
      (record { result = ej; lent = eb }) (c.taken + s.length) refl)

  pub follow_open : s.ending ≡ Cut
      → Leaves (goes c t) (record (grown c (take s.length t)) { noise = heard + s.noise; taken = c.taken + s.length }) (no_report 0 0 s.length)
  follow_open z =
      leaves_as _ _ _ _ (by_taken _ (fed_cut judge t s e c.taken c.start before heard z)) (record { state = rw (i, o); fed = refl })

  pub follow_closed : (b : List ℕ) (j : Judged) → (let k = grown c (take s.length t) in Gives (recorded_as (judge (framed (take k.count k.bytes))) cleared) j b)
      → s.ending ≡ Whole
      → Leaves (goes c t) (closed_at b j (c.taken + s.length + 1)) (reported j c.start (c.taken + s.length + 1) (heard + s.noise) (s.length + 1))
  follow_closed b j g z =
      let end : c.taken + s.length + 1 ≡ c.taken + (s.length + 1) = omega arith in
      let same : judge (framed (take room content)) ≡ judge (framed content) = judge_kept room (omega arith) content in
      leaves_as _ _ _ _ (by_taken _ (fed_closed judge t s e c.taken c.start before heard z))
      (rw end
      (ended_step c.bytes c.taken (s.length + 1) c.start (heard + s.noise) (judge (framed content)) (known_judge content) b j
      (rw (kept_content c content, same) at g) (c.taken + (s.length + 1)) refl))

-- Outside one, and the bytes s are fed.
module _ (c : Cable) (i : c.inside ≡ false) (s : List ℕ) (a : ℕ) (ea : a ≡ ahead s) where
  abbrev sought : Step
  sought = step_by cleared c.taken (taken judge c.taken outside s)

  -- All of them are passed over.
  pub seek_none : length s ≤ a → Leaves (goes c s) (resting [] (c.taken + a) false) (no_report 0 0 a)
  seek_none h =
      let n : a ≡ length s = omega (arith, ea, ahead_within s) in
      let all : taken judge c.taken outside s ≡ taking a outside none = fed_none judge s c.taken (omega arith) ∙ rw n in
      leaves_as (step_by cleared c.taken (taking a outside none)) _ _ _
      (goes_outside c s i ∙ ap (step_by cleared c.taken) all) (record { state = refl; fed = refl })

  -- Or a message begins at the first F0H, whose record was read from what stands behind.
  module _ (h : a < length s) (b : List ℕ) (x : Heard) where
    -- The bytes behind it, as they are lent.
    abbrev pub rest : List ℕ
    rest = take (length s - (a + 1)) (drop (a + 1) s)

    module _ (g : Gives (recorded_from rest cleared) x b) where
      abbrev n : ℕ
      n = a + 1 + x.span.length

      -- Where it ends.
      abbrev e : ℕ
      e = c.taken + a + 1 + x.span.length

      its_span : x.span ≡ span_of rest
      its_span = ap (λ (y : Heard). y.span) g.result

      its_record : Gives (recorded_as (verdict_from rest) cleared) x.judged b
      its_record = record { result = ap (λ (y : Heard). y.judged) g.result; lent = g.lent }

      by_rest : (m : ℕ) (st : State) (r : Option Report) → taken judge (c.taken + a + 1) (inside (c.taken + a) [] 0) rest ≡ taking m st r
          → goes c s ≡ step_by cleared c.taken (taking (a + 1 + m) st r)
      by_rest m st r q =
          let found = rw (← ea) at (fed_found judge s c.taken (omega (arith, ea))) in
          let same = rw (to_end (a + 1) s) at q in
          goes_outside c s i ∙ rw (found, same)

      pub seek_broken : x.span.ending ≡ Interrupted
          → Leaves (goes c s) (closed_at b x.judged e) (reported x.judged (c.taken + a) e x.span.noise n)
      seek_broken z =
          let verdict : verdict_from rest ≡ refused (outcome 3 0) = verdict_interrupted rest x.span its_span z in
          leaves_as _ _ _ _ (by_rest _ _ _ (fed_broken judge rest x.span its_span (c.taken + a + 1) (c.taken + a) [] 0 z))
          (rw zero-add
          (ended_step cleared c.taken n (c.taken + a) x.span.noise (refused (outcome 3 0)) (known_refused 3 (λ y. omega arith)) b x.judged
          (rw verdict at its_record) e (omega arith)))

      pub seek_closed : x.span.ending ≡ Whole
          → Leaves (goes c s) (closed_at b x.judged (e + 1)) (reported x.judged (c.taken + a) (e + 1) x.span.noise (n + 1))
      seek_closed z =
          let end : c.taken + a + 1 + (x.span.length + 1) ≡ e + 1 = omega arith in
          let size : a + 1 + (x.span.length + 1) ≡ n + 1 = omega arith in
          let content = without_real_time (take x.span.length rest) in
          leaves_as _ _ _ _ (by_rest _ _ _ (fed_closed judge rest x.span its_span (c.taken + a + 1) (c.taken + a) [] 0 z))
          (rw (end, size, zero-add)
          (ended_step cleared c.taken (n + 1) (c.taken + a) x.span.noise (judge (framed content)) (known_judge content) b x.judged
          (rw (verdict_judged rest x.span its_span z) at its_record) (e + 1) (omega arith)))

      -- Cut, the room is as it was.
      seek_cleared : x.span.ending ≡ Cut → b ≡ cleared
      seek_cleared z =
          let verdict = verdict_cut rest x.span its_span z in
          (rw verdict at its_record).lent

      abbrev begun : Cable
      begun = record { bytes = b; inside = true; over = false; count = 0; start = c.taken + a; noise = x.span.noise; taken = e }

      pub seek_open : x.span.ending ≡ Cut → Leaves (goes c s) (grown begun (take x.span.length rest)) (no_report 0 0 n)
      seek_open z =
          let end : c.taken + n ≡ e = omega arith in
          leaves_as _ _ _ _ (by_rest _ _ _ (fed_cut judge rest x.span its_span (c.taken + a + 1) (c.taken + a) [] 0 z))
          (rw zero-add (record { state = rw (seek_cleared z, end); fed = refl }))
