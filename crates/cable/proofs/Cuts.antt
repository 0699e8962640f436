-- For every way of cutting a stream the calls give the reports of the file walk: what a call leaves to be read is what the walk's two states make of the
-- rest, and what is stored of a message is all that matters of it.
use mathlib.Core.Path.{◌≡◌, refl, sym, ap, ◌∙◌}
use mathlib.Core.Bool.{Bool, true, false, cond}
use mathlib.Core.List.{List, [], ◌∷◌, ◌++◌, map, append_assoc}
use mathlib.Core.Option.{Option, none, some}
use Prim.Native.Nat.{ℕ, zero, suc, min, ◌+◌, ◌-◌, ◌*◌, ◌≤◌, ◌<◌}
use native.Mathlib.Nat.{min-le_right, min-eq_left}
use native.Mathlib.Omega.{arith}
use lib.Dec.{leb}
use lib.ListN.{length, take, drop, length-take, length-drop, take-append-drop}
use lib.Seq.{drop-nil, take-take, take_all, take_at, take-append-le, length-take-le, drop-append-le}
use borrow.Author.Tests.{leb-true, leb-false, le-leb, le-ltb}
use Rattle.answers.specs.Table.{Verdict, done, refused, answer_of}
use Rattle.answers.specs.Effect.{at_start, told_as}
use Rattle.answers.proofs.Lists.{all_weaken}
use Rattle.streams.specs.Bytes.{ByteKind, dataByte, exclusive, endOfExclusive, otherStatus, realTime, byte_kind}
use Rattle.streams.specs.Stream as stream
use Rattle.streams.specs.Stream.{packed_in, walk, read}
use Rattle.streams.specs.Feed.{Taken, taken}
use Rattle.streams.specs.code.Scan.{State, outside, inside, next, emit, scan, finish}
use Rattle.streams.specs.promises.Feed.{list_of, Stops, at_an_end, at_all, Within}
use Rattle.streams.proofs.Feed as feed
use Rattle.streams.proofs.Walk.{reports_scan, reread}
use Rattle.streams.proofs.Complete.{complete}
use Rattle.messages.specs.Kinds.{master}
use Rattle.messages.specs.Judge.{judge}
use Rattle.messages.proofs.Long.{judge_kept}
use Rattle.reading.specs.code.Told.{reading_of}
use Rattle.cable.specs.declared.Cable.{Cable}
use Rattle.cable.specs.declared.Step.{Step}
use Rattle.cable.specs.Cable.{limit, room, held_by, laid_over, cleared, packed_of, resting, record_of, fresh_record, told, step_by, goes, feeding, last_told, ending}
use Rattle.cable.specs.promises.Cuts.{Entry, given, entry_of, Run, run, with_bytes, ReadSo, AsTheFile, EveryCut}
use Rattle.cable.proofs.Recorded.{known_judge}
use Rattle.cable.proofs.Calls.{ending_first, feeding_goes}

-- As much of a content as is stored, with more behind it.
stored_again : (c w : List ℕ) → take room (take room c ++ w) ≡ take room (c ++ w)
stored_again c w = by_test (leb room (length c)) refl
  where
    by_test : (v : Bool) → leb room (length c) ≡ v → take room (take room c ++ w) ≡ take room (c ++ w)
    by_test true q =
        let h = leb-true room (length c) q in
        let l : length (take room c) ≡ room = length-take-le room c h in
        rw (take-append-le room (take room c) w (omega arith), take-append-le room c w h, take-take room room c (omega arith))
    by_test false q = let h = leb-false room (length c) q in rw (take_all room c (omega arith))

abbrev short : State → State
short outside = outside
short (inside f c k) = inside f (take room c) k

-- What is stored of a content is all that matters of it.
scan_short : (s : List ℕ) (p : ℕ) (st : State) → scan judge p (short st) s ≡ scan judge p st s
scan_short [] p outside = refl
scan_short [] p (inside f c k) = refl
scan_short (b ∷ s) p outside = refl
scan_short (b ∷ s) p (inside f c k) = by_its_kind (byte_kind b) (scan_short s (suc p))
  where
    by_its_kind : (q : ByteKind) → ((st : State) → scan judge (suc p) (short st) s ≡ scan judge (suc p) st s)
        → emit judge q p (inside f (take room c) k) ++ scan judge (suc p) (next q b p (inside f (take room c) k)) s
        ≡ emit judge q p (inside f c k) ++ scan judge (suc p) (next q b p (inside f c k)) s
    by_its_kind dataByte i =
        sym (i (inside f (take room c ++ (b ∷ [])) k))
        ∙ (ap (λ (w : List ℕ). scan judge (suc p) (inside f w k) s) (stored_again c (b ∷ [])) ∙ i (inside f (c ++ (b ∷ [])) k))
    by_its_kind exclusive i = refl
    by_its_kind endOfExclusive i = rw (judge_kept room (omega arith) c)
    by_its_kind otherStatus i = refl
    by_its_kind realTime i = i (inside f c (suc k))

-- A record holds the state that it is made of.
held_again : (old : List ℕ) (n : ℕ) (st : State) (p : List ℕ) → Within n st → held_by (record_of old n st p) ≡ short st
held_again old n outside p w = refl
held_again old n (inside f c k) p w = rw (take_at (take room c) (drop (length (take room c)) old) (length (take room c)) refl, min-eq_left w)

held_within : (c : Cable) → Within c.taken (held_by c)
held_within c = by_flag c.inside
  where
    by_flag : (v : Bool) → Within c.taken (cond v (inside c.start (take c.count c.bytes) (min c.noise c.taken)) outside)
    by_flag true = min-le_right c.noise c.taken
    by_flag false = tt

-- The record of a call that was done has what the call took, and goes on.
after_taken : (old : List ℕ) (n : ℕ) (st : State) (p : List ℕ) → ((record_of old n st p).taken ≡ n) × ((record_of old n st p).over ≡ false)
after_taken old n outside p = (refl, refl)
after_taken old n (inside f c k) p = (refl, refl)

told_taken : (n : ℕ) (o : Option stream.Report) → (told n o).taken ≡ n
told_taken n none = refl
told_taken n (some r) = refl

-- The report of a call is the one that it ended with, and its packed bytes stand in the record.
given_is : (old : List ℕ) (p : ℕ) (t : Taken) (xs : List ℕ) → Stops p xs t.count t.state t.ended → given (step_by old p t) ≡ map entry_of (list_of t.ended)
given_is old p t xs (at_all q l) = rw q
given_is old p t xs (at_an_end r q e o) =
    rw (q, o, take_at (packed_in r.verdict) (drop (length (packed_in r.verdict)) cleared) (length (packed_in r.verdict)) refl)

map_append : (a b : List stream.Report) → map entry_of (a ++ b) ≡ map entry_of a ++ map entry_of b
map_append [] b = refl
map_append (x ∷ a) b = ap (λ (l : List Entry). entry_of x ∷ l) (map_append a b)

-- What the states make of the rest, from a record.
abbrev ahead : Cable → List ℕ → List Entry
ahead c s = map entry_of (scan judge c.taken (held_by c) s)

ahead_is : (r : Cable) (n : ℕ) (st : State) (zs : List ℕ) → r.taken ≡ n → held_by r ≡ short st → ahead r zs ≡ map entry_of (scan judge n st zs)
ahead_is r n st zs et eh =
    ap (λ (x : State). map entry_of (scan judge r.taken x zs)) eh ∙ ap (λ (m : ℕ). map entry_of (scan judge m (short st) zs)) et
    ∙ ap (map entry_of) (scan_short zs n st)

record Going (c : Cable) (s : List ℕ) (x : Step) (t : Taken) : Type 0 where
  took : x.fed.taken ≡ t.count
  on : x.state.over ≡ false
  place : x.state.taken ≡ c.taken + t.count
  -- the states' reports are the call's, and then those from its record on
  onward : (ys : List ℕ) → ahead c (s ++ ys) ≡ given x ++ ahead x.state (drop t.count s ++ ys)

module _ (c : Cable) (s : List ℕ) where
  abbrev its : Taken
  its = taken judge c.taken (held_by c) s

  abbrev behind : Cable
  behind = record_of (laid_over c) (c.taken + its.count) its.state (packed_of its.ended)

  place_behind : behind.taken ≡ c.taken + its.count
  place_behind = (after_taken (laid_over c) (c.taken + its.count) its.state (packed_of its.ended)).0

  onward_from : (ys : List ℕ) → ahead c (s ++ ys) ≡ given (goes c s) ++ ahead behind (drop its.count s ++ ys)
  onward_from ys =
      let within = feed.taken_counted judge s c.taken (held_by c) (held_within c) in
      let zs = drop its.count s ++ ys in
      let held = held_again (laid_over c) (c.taken + its.count) its.state (packed_of its.ended) within in
      let then = ahead_is behind (c.taken + its.count) its.state zs place_behind held in
      let first = given_is (laid_over c) c.taken its s (feed.taken_stops judge s c.taken (held_by c)) in
      ap (map entry_of) (feed.scan_taken judge s ys c.taken (held_by c)) ∙ map_append (list_of its.ended) _
      ∙ sym (ap (λ (l : List Entry). l ++ ahead behind zs) first ∙ ap (λ (l : List Entry). map entry_of (list_of its.ended) ++ l) then)

  -- A feed before the end and within the limit.
  going : c.over ≡ false → c.taken + length s ≤ limit → Going c s (feeding c s) its
  going o h =
      rw (feeding_goes c s o (le-ltb limit (c.taken + length s) h)) (record {
        took = told_taken its.count its.ended;
        on = (after_taken (laid_over c) (c.taken + its.count) its.state (packed_of its.ended)).1;
        place = place_behind;
        onward = onward_from;
      })

-- Bytes that are fed again stand before those that are not yet fed.
again : (n k : ℕ) (s : List ℕ) → k ≤ length (take n s) → drop k (take n s) ++ drop n s ≡ drop k s
again n k s h = sym (drop-append-le k (take n s) (drop n s) h) ∙ ap (λ (l : List ℕ). drop k l) (take-append-drop n s)

-- What holds of calls from a record: what they gave and what the states make of the rest, and how far they are.
record Gone (c : Cable) (s : List ℕ) (r : Run) : Type 0 where
  gave : ahead c s ≡ r.entries ++ ahead r.state r.left
  on : r.state.over ≡ false
  far : r.state.taken + length r.left ≡ c.taken + length s

gone : (ns : List ℕ) (c : Cable) (s : List ℕ) → c.over ≡ false → c.taken + length s ≤ limit → Gone c s (run ns c s)
gone [] c s o h = record { gave = refl; on = o; far = refl }
gone (n ∷ ns) c s o h =
    let xs = take n s in
    let fewer : length xs ≤ length s = simp length-take (omega arith) in
    let g = going c xs o (omega arith) in
    let k = (its c xs).count in
    let few = feed.taken_within judge xs c.taken (held_by c) in
    let rest : drop (feeding c xs).fed.taken s ≡ drop k s = ap (λ (m : ℕ). drop m s) g.took in
    let size : length (drop (feeding c xs).fed.taken s) ≡ length s - k = ap length rest ∙ length-drop k s in
    let place = g.place in
    let i = gone ns (feeding c xs).state (drop (feeding c xs).fed.taken s) g.on (omega arith) in
    let split : ahead c s ≡ given (feeding c xs) ++ ahead (feeding c xs).state (drop (feeding c xs).fed.taken s) =
    ap (ahead c) (sym (take-append-drop n s)) ∙ g.onward (drop n s)
    ∙ ap (λ (l : List ℕ). given (feeding c xs) ++ ahead (feeding c xs).state l) (again n k s few ∙ sym rest) in
    record {
      gave = split ∙ ap (λ (l : List Entry). given (feeding c xs) ++ l) i.gave ∙ sym (append_assoc (given (feeding c xs)) _ _);
      on = i.on;
      far = i.far ∙ omega arith;
    }

-- The end gives what the states make of nothing more.
last_given : (c : Cable) → c.over ≡ false → given (ending c) ≡ ahead c []
last_given c o = ap given (ending_first c o) ∙ by_state (held_by c)
  where
    by_state : (st : State) → given (record { state = resting [] c.taken true; fed = last_told c.taken st }) ≡ map entry_of (finish c.taken st)
    by_state outside = refl
    by_state (inside f w k) = refl

-- A message that is open may cost a feed that takes nothing.
abbrev load : State → ℕ
load outside = 0
load (inside f c k) = 1

load_small : (st : State) → load st ≤ 1
load_small outside = omega arith
load_small (inside f c k) = omega arith

load_again : (old : List ℕ) (n : ℕ) (st : State) (p : List ℕ) → load (held_by (record_of old n st p)) ≡ load st
load_again old n outside p = refl
load_again old n (inside f c k) p = refl

-- A feed with bytes takes some, or ends the message that is open.
gets_on : (xs : List ℕ) (p : ℕ) (st : State) → 0 < length xs → let t = taken judge p st xs in suc (load t.state) ≤ 2 * t.count + load st
gets_on xs p outside h = omega (arith, feed.taken_on judge xs p h, load_small (taken judge p outside xs).state)
gets_on xs p (inside f c k) h = by_stop (feed.taken_stops judge xs p (inside f c k))
  where
    by_stop : (let t = taken judge p (inside f c k) xs in Stops p xs t.count t.state t.ended)
        → let t = taken judge p (inside f c k) xs in suc (load t.state) ≤ 2 * t.count + 1
    by_stop (at_all q l) = omega (arith, l, load_small (taken judge p (inside f c k) xs).state)
    by_stop (at_an_end r q e o) = let z : load (taken judge p (inside f c k) xs).state ≡ 0 = ap load o in omega arith

nothing_left : (ns : List ℕ) (c : Cable) → (run ns c []).left ≡ []
nothing_left [] c = refl
nothing_left (n ∷ ns) c =
    let x = feeding c (take n []) in
    ap (λ (l : List ℕ). (run ns x.state l).left) (drop-nil {A = ℕ} x.fed.taken) ∙ nothing_left ns x.state

-- So many feeds with bytes are enough.
abbrev Enough : List ℕ → Cable → List ℕ → Type 0
Enough ns c s = c.over ≡ false → c.taken + length s ≤ limit → 2 * length s + load (held_by c) ≤ with_bytes ns → (run ns c s).left ≡ []

enough : (ns : List ℕ) (c : Cable) (s : List ℕ) → Enough ns c s
enough [] c [] o h e = refl
enough [] c (b ∷ s) o h e = absurd (omega arith)
enough (n ∷ ns) c s o h e = by_bytes s (enough ns) o h e
  where
    by_size : (n b : ℕ) (s : List ℕ) → 2 * suc (length s) + load (held_by c) ≤ with_bytes (n ∷ ns)
        → let t = its c (take n (b ∷ s)) in 2 * (suc (length s) - t.count) + load t.state ≤ with_bytes ns
    by_size zero b s e = omega arith
    by_size (suc n) b s e =
        let few = feed.taken_within judge (take (suc n) (b ∷ s)) c.taken (held_by c) in
        let fewer : length (take (suc n) (b ∷ s)) ≤ suc (length s) = simp length-take (omega arith) in
        omega (arith, gets_on (take (suc n) (b ∷ s)) c.taken (held_by c) (omega arith))

    by_bytes : (s : List ℕ) → ((c : Cable) (s : List ℕ) → Enough ns c s) → Enough (n ∷ ns) c s
    by_bytes [] i o h e = nothing_left (n ∷ ns) c
    by_bytes (b ∷ s) i o h e =
        let xs = take n (b ∷ s) in
        let fewer : length xs ≤ suc (length s) = simp length-take (omega arith) in
        let g = going c xs o (omega arith) in
        let t = its c xs in
        let few = feed.taken_within judge xs c.taken (held_by c) in
        let size : length (drop (feeding c xs).fed.taken (b ∷ s)) ≡ suc (length s) - t.count =
        ap (λ (m : ℕ). length (drop m (b ∷ s))) g.took ∙ length-drop t.count (b ∷ s) in
        let place = g.place in
        let held : load (held_by (feeding c xs).state) ≡ load t.state =
        ap (λ (x : Step). load (held_by x.state)) (feeding_goes c xs o (le-ltb limit (c.taken + length xs) (omega arith)))
        ∙ load_again (laid_over c) (c.taken + t.count) t.state (packed_of t.ended) in
        i (feeding c xs).state (drop (feeding c xs).fed.taken (b ∷ s)) g.on (omega arith) (omega (arith, held, by_size n b s e))

-- Reading a record of the file from the start of a report.
read_so : (s : List ℕ) (r : stream.Report) → walk judge s r.start ≡ some r → ReadSo s r
unfolding read
read_so s r e lent h = rw e (by_verdict r.verdict refl)
  where
    by_verdict : (v : Verdict) → r.verdict ≡ v
        → told_as reading_of (stream.read_into r.start r.end v r.noise lent)
        ≡ record { result = (told 0 (some (stream.report r.start r.end v r.noise))).reading; lent = at_start (packed_in v) lent }
    by_verdict (refused o) q = refl
    by_verdict (done op b p) q =
        let its = complete judge s r.start r e (ap answer_of q) in
        let known = known_judge its.content in
        let small : length (packed_in r.verdict) ≤ master = rw its.judged known.small in
        rw (le-leb (length p) (length lent) (omega (arith, rw q at small)))

pub every_cut : EveryCut
every_cut = record { as_the_file = as_the_file; gets_on = on }
  where
    as_the_file : (s : List ℕ) → length s ≤ limit → AsTheFile s
    as_the_file s h = record {
      every_cut = λ ns e. sym (all ns ∙ ap (λ (l : List Entry). (its_run ns).entries ++ l) (last ns e));
      so_far = λ ns. (ahead (its_run ns).state (its_run ns).left, all ns);
      gets_there = λ ns e. enough ns fresh_record s refl (omega arith) (omega arith);
      as_read = all_weaken (λ r. walk judge s r.start ≡ some r) (ReadSo s) (read_so s) (stream.reports judge s) (reread judge s);
    }
      where
        its_run : List ℕ → Run
        its_run ns = run ns fresh_record s

        far : (ns : List ℕ) → Gone fresh_record s (its_run ns)
        far ns = gone ns fresh_record s refl (omega arith)

        all : (ns : List ℕ) → map entry_of (stream.reports judge s) ≡ (its_run ns).entries ++ ahead (its_run ns).state (its_run ns).left
        all ns = ap (map entry_of) (reports_scan judge s) ∙ (far ns).gave

        last : (ns : List ℕ) → (its_run ns).left ≡ [] → ahead (its_run ns).state (its_run ns).left ≡ given (ending (its_run ns).state)
        last ns e = ap (ahead (its_run ns).state) e ∙ sym (last_given (its_run ns).state (far ns).on)

    on : (c : Cable) (s : List ℕ) → c.over ≡ false → c.taken + length s ≤ limit → 0 < length s → (feeding c s).fed.taken ≡ 0
        → ((feeding c s).fed.ended ≡ true) × ((t : List ℕ) → c.taken + length t ≤ limit → 0 < length t → 0 < (feeding (feeding c s).state t).fed.taken)
    on c s o h n z = by_stop (feed.taken_stops judge s c.taken (held_by c))
      where
        as_goes : feeding c s ≡ goes c s
        as_goes = feeding_goes c s o (le-ltb limit (c.taken + length s) h)

        none : (its c s).count ≡ 0
        none = sym (going c s o h).took ∙ z

        by_stop : (let t = its c s in Stops c.taken s t.count t.state t.ended)
            → ((feeding c s).fed.ended ≡ true) × ((t : List ℕ) → c.taken + length t ≤ limit → 0 < length t → 0 < (feeding (feeding c s).state t).fed.taken)
        by_stop (at_all q l) = absurd (omega (arith, l, none))
        by_stop (at_an_end r q e st) =
            let g = going c s o h in
            let out : held_by (feeding c s).state ≡ outside =
            ap (λ (x : Step). held_by x.state) as_goes
            ∙ ap (λ (x : State). held_by (record_of (laid_over c) (c.taken + (its c s).count) x (packed_of (its c s).ended))) st in (
              ap (λ (x : Step). x.fed.ended) as_goes ∙ ap (λ (x : Option stream.Report). (told (its c s).count x).ended) q,
              λ t k m.
                  let within : (feeding c s).state.taken + length t ≤ limit = omega (arith, g.place, none) in
                  let took = (going (feeding c s).state t g.on within).took in
                  let some_taken = feed.taken_on judge t (feeding c s).state.taken m in
                  let same : (its (feeding c s).state t).count ≡ (taken judge (feeding c s).state.taken outside t).count =
                  ap (λ (x : State). (taken judge (feeding c s).state.taken x t).count) out in
                  omega arith,
            )
