-- What a call answers, by its tests: behind the end, past the limit, and else by the message that ended with it or by none.
use mathlib.Core.Path.{◌≡◌, refl, sym, ap, ◌∙◌}
use mathlib.Core.Bool.{Bool, true, false}
use mathlib.Core.List.{List, []}
use mathlib.Core.Logic.{◌⊎◌, inl, inr}
use mathlib.Core.Option.{Option, none, some}
use Prim.Native.Nat.{ℕ, ◌+◌, ◌≤◌, ◌<◌}
use native.Mathlib.Omega.{arith}
use lib.Dec.{ltb}
use lib.ListN.{length}
use borrow.Author.Tests.{lt-ltb, le-ltb, ltb-true, ltb-false}
use Rattle.answers.specs.Table.{Verdict, done, refused, answer_of}
use Rattle.streams.specs.Bytes.{framed}
use Rattle.streams.specs.Stream as stream
use Rattle.streams.specs.Feed.{Taken, taken}
use Rattle.streams.specs.code.Scan.{State, outside, inside}
use Rattle.streams.specs.promises.Feed.{Stops, at_an_end, at_all, Ending, closed, interrupted, EndsSo}
use Rattle.streams.proofs.Feed as feed
use Rattle.messages.specs.Judge.{judge}
use Rattle.messages.proofs.Numbers.{judge_number}
use Rattle.cable.specs.declared.Cable.{Cable}
use Rattle.cable.specs.declared.Step.{Step}
use Rattle.cable.specs.Cable.{limit, held_by, laid_over, packed_by, packed_of, record_of, told, refusing, goes, feeding, last_told, ending}
use Rattle.cable.specs.promises.Answers.{answer_in, OfMessage, Kept, NoReport, Done, Ended, Answers}
use Rattle.cable.proofs.Calls.{held_inside, held_outside, ending_over, ending_first, feeding_over, feeding_many, feeding_goes}

-- The number of a message that ended.
of_message : (v : Verdict) → Ending judge v → OfMessage (answer_of v)
of_message v (interrupted q) = rw q (inr (inl refl))
of_message v (closed c q) = rw q (by_verdict (judge (framed c)) refl)
  where
    by_verdict : (w : Verdict) → judge (framed c) ≡ w → OfMessage (answer_of w)
    by_verdict (done o b p) e = inl refl
    by_verdict (refused r) e = inr (inr (judge_number (framed c) r e))

-- A call, by its tests.
data Fate (c : Cable) (s : List ℕ) : Type 0 where
  behind : c.over ≡ true → feeding c s ≡ refusing c c.taken 1 → Fate c s
  past : c.over ≡ false → limit < c.taken + length s → feeding c s ≡ refusing c 0 21 → Fate c s
  open_still : c.over ≡ false → c.taken + length s ≤ limit → feeding c s ≡ goes c s → Fate c s

fate : (c : Cable) (s : List ℕ) → Fate c s
fate c s = by_over c.over refl (ltb limit (c.taken + length s)) refl
  where
    by_over : (o : Bool) → c.over ≡ o → (m : Bool) → ltb limit (c.taken + length s) ≡ m → Fate c s
    by_over true o m q = behind o (feeding_over c s o)
    by_over false o true q = past o (ltb-true limit (c.taken + length s) q) (feeding_many c s o q)
    by_over false o false q = open_still o (ltb-false limit (c.taken + length s) q) (feeding_goes c s o q)

other : (o : Bool) → o ≡ true → o ≡ false → ⊥
other o p q = let z : ◌≡◌ {A = ℕ} 0 1 = cc in omega arith

-- A feed that is done.
module _ (c : Cable) (s : List ℕ) where
  abbrev its : Taken
  its = taken judge c.taken (held_by c) s

  -- Its answer: 0 with no message, else of the message.
  goes_answer : OfMessage (answer_in (goes c s).fed)
  goes_answer = by_option its.ended (feed.taken_ends judge s c.taken (held_by c))
    where
      by_option : (o : Option stream.Report) → EndsSo judge o → OfMessage (answer_in (told its.count o))
      by_option none e = inl refl
      by_option (some r) e = of_message r.verdict e

  told_taken : (n : ℕ) (o : Option stream.Report) → (told n o).taken ≡ n
  told_taken n none = refl
  told_taken n (some r) = refl

  moved : (st : State) (n : ℕ) (p : List ℕ) → ((record_of (laid_over c) n st p).taken ≡ n) × ((record_of (laid_over c) n st p).over ≡ false)
  moved outside n p = (refl, refl)
  moved (inside f w k) n p = (refl, refl)

  -- Where no message ended, none was recorded.
  none_packed : (st : State) (n : ℕ) → packed_by (record_of (laid_over c) n st []) ≡ []
  none_packed outside n = refl
  none_packed (inside f w k) n = refl

  -- With a report, or without one.
  data With (x : Step) : Type 0 where
    a_report : x.fed.ended ≡ true → x.fed.reading.report.end ≡ c.taken + x.fed.taken → With x
    report_none : x.fed.ended ≡ false → x.fed.taken ≡ length s → answer_in x.fed ≡ 0 → NoReport 0 x.fed → packed_by x.state ≡ [] → With x

  with : With (goes c s)
  with = by_stop (feed.taken_stops judge s c.taken (held_by c))
    where
      by_stop : Stops c.taken s its.count its.state its.ended → With (goes c s)
      by_stop (at_all q l) =
          report_none (rw q) (rw q l) (rw q) (record { start = rw q; end = rw q; detail = rw q; value = rw q; noise = rw q; bytes = rw q })
          (rw q (none_packed its.state (c.taken + its.count)))
      by_stop (at_an_end r q e o) = a_report (rw q) (rw q e)

  done_so : Done c s (goes c s)
  done_so = record {
    place = (moved its.state (c.taken + its.count) (packed_of its.ended)).0 ∙ ap (λ (n : ℕ). c.taken + n) (sym (told_taken its.count its.ended));
    within = omega (arith, told_taken its.count its.ended, feed.taken_within judge s c.taken (held_by c));
    on = (moved its.state (c.taken + its.count) (packed_of its.ended)).1;
    up_to = λ e. reported with e;
    answered = λ e. goes_answer;
    all = λ e. (quiet with e).0;
    zero = λ e. (quiet with e).1;
    plain = λ e. (quiet with e).2;
    nothing = λ e. (quiet with e).3;
  }
    where
      reported : With (goes c s) → (goes c s).fed.ended ≡ true → (goes c s).fed.reading.report.end ≡ c.taken + (goes c s).fed.taken
      reported (a_report t e) q = e
      reported (report_none f l z p n) q = absurd (other _ q f)

      quiet : With (goes c s) → (goes c s).fed.ended ≡ false
          → ((goes c s).fed.taken ≡ length s) × (answer_in (goes c s).fed ≡ 0) × NoReport 0 (goes c s).fed × (packed_by (goes c s).state ≡ [])
      quiet (a_report t e) q = absurd (other _ t q)
      quiet (report_none f l z p n) q = (l, z, p, n)

-- The numbers of messages are none of these.
not_of : (n k : ℕ) → OfMessage n → (k ≡ 1) ⊎ (k ≡ 13) ⊎ (k ≡ 21) → n ≡ k → ⊥
not_of n k (inl a) (inl b) e = omega arith
not_of n k (inl a) (inr (inl b)) e = omega arith
not_of n k (inl a) (inr (inr b)) e = omega arith
not_of n k (inr (inl a)) (inl b) e = omega arith
not_of n k (inr (inl a)) (inr (inl b)) e = omega arith
not_of n k (inr (inl a)) (inr (inr b)) e = omega arith
not_of n k (inr (inr a)) (inl b) e = omega arith
not_of n k (inr (inr a)) (inr (inl b)) e = omega arith
not_of n k (inr (inr a)) (inr (inr b)) e = omega arith

abbrev answer : Cable → List ℕ → ℕ
answer c s = answer_in (feeding c s).fed

-- The answer of each fate.
said : (c : Cable) (s : List ℕ) (x : Step) → feeding c s ≡ x → answer c s ≡ answer_in x.fed
said c s x e = ap (λ (y : Step). answer_in y.fed) e

keeps : (c : Cable) (place n : ℕ) (x : Step) → x ≡ refusing c place n → Kept c x × NoReport place x.fed
keeps c place n x e =
    rw e (record { state = refl; none = refl; quiet = refl }, record { start = refl; end = refl; detail = refl; value = refl; noise = refl; bytes = refl })

gives_1 : (c : Cable) (s : List ℕ) → answer c s ≡ 1 → c.over ≡ true
gives_1 c s z = go (fate c s)
  where
    go : Fate c s → c.over ≡ true
    go (behind o e) = o
    go (past o h e) = absurd (omega (arith, z, said c s _ e))
    go (open_still o h e) = absurd (not_of _ 1 (goes_answer c s) (inl refl) (sym (said c s _ e) ∙ z))

gives_21 : (c : Cable) (s : List ℕ) → answer c s ≡ 21 → (c.over ≡ false) × (limit < c.taken + length s)
gives_21 c s z = go (fate c s)
  where
    go : Fate c s → (c.over ≡ false) × (limit < c.taken + length s)
    go (behind o e) = absurd (omega (arith, z, said c s _ e))
    go (past o h e) = (o, h)
    go (open_still o h e) = absurd (not_of _ 21 (goes_answer c s) (inr (inr refl)) (sym (said c s _ e) ∙ z))

-- The declared end, by the state.
ends : (c : Cable) → c.over ≡ false → answer_in (ending c).fed ≡ answer_in (last_told c.taken (held_by c))
ends c o = ap (λ (x : Step). answer_in x.fed) (ending_first c o)

data Last (c : Cable) : Type 0 where
  again : c.over ≡ true → answer_in (ending c).fed ≡ 1 → Last c
  cut : c.over ≡ false → c.inside ≡ true → answer_in (ending c).fed ≡ 2 → Last c
  none_open : c.over ≡ false → c.inside ≡ false → answer_in (ending c).fed ≡ 1 → Last c

last : (c : Cable) → Last c
last c = by_flags c.over refl c.inside refl
  where
    by_flags : (o : Bool) → c.over ≡ o → (i : Bool) → c.inside ≡ i → Last c
    by_flags true o i q = again o (ap (λ (x : Step). answer_in x.fed) (ending_over c o))
    by_flags false o true q = cut o q (ends c o ∙ ap (λ (st : State). answer_in (last_told c.taken st)) (held_inside c q))
    by_flags false o false q = none_open o q (ends c o ∙ ap (λ (st : State). answer_in (last_told c.taken st)) (held_outside c q))

-- The first end, with a message open and with none.
first_end : (c : Cable) → c.over ≡ false → Ended c (ending c)
first_end c o = rw (ending_first c o) (record {
  none = untaken (held_by c);
  place = refl;
  over = refl;
  nothing = refl;
  cut = λ i. rw (held_inside c i) (refl, refl, refl, refl);
  no_message = λ i. rw (held_outside c i) (refl, refl, record { start = refl; end = refl; detail = refl; value = refl; noise = refl; bytes = refl });
})
  where
    untaken : (st : State) → (last_told c.taken st).taken ≡ 0
    untaken outside = refl
    untaken (inside f w k) = refl

pub answers : Answers
answers = record {
  feed_1 = λ c s. (gives_1 c s, λ o. said c s _ (feeding_over c s o));
  feed_21 = λ c s. (gives_21 c s, λ h. said c s _ (feeding_many c s h.0 (lt-ltb limit (c.taken + length s) h.1)));
  feed_over = λ c s o. keeps c c.taken 1 (feeding c s) (feeding_over c s o);
  feed_many = λ c s o h. keeps c 0 21 (feeding c s) (feeding_many c s o (lt-ltb limit (c.taken + length s) h));
  feed_done = λ c s o h. rw (feeding_goes c s o (le-ltb limit (c.taken + length s) h)) (done_so c s);
  end_2 = λ c. (two c, λ h. ends c h.0 ∙ ap (λ (st : State). answer_in (last_told c.taken st)) (held_inside c h.1));
  end_1 = λ c. (one c, one_back c);
  end_first = first_end;
  end_again = λ c o. keeps c c.taken 1 (ending c) (ending_over c o);
  fresh = (refl, refl, refl, refl);
  never_13 = λ c s. (no_13 c s, end_13 c);
}
  where
    no_13 : (c : Cable) (s : List ℕ) → answer c s ≡ 13 → ⊥
    no_13 c s z = go (fate c s)
      where
        go : Fate c s → ⊥
        go (behind o e) = omega (arith, z, said c s _ e)
        go (past o h e) = omega (arith, z, said c s _ e)
        go (open_still o h e) = not_of _ 13 (goes_answer c s) (inr (inl refl)) (sym (said c s _ e) ∙ z)

    two : (c : Cable) → answer_in (ending c).fed ≡ 2 → (c.over ≡ false) × (c.inside ≡ true)
    two c z = go (last c)
      where
        go : Last c → (c.over ≡ false) × (c.inside ≡ true)
        go (again o a) = absurd (omega arith)
        go (cut o i a) = (o, i)
        go (none_open o i a) = absurd (omega arith)

    one : (c : Cable) → answer_in (ending c).fed ≡ 1 → (c.over ≡ true) ⊎ (c.inside ≡ false)
    one c z = go (last c)
      where
        go : Last c → (c.over ≡ true) ⊎ (c.inside ≡ false)
        go (again o a) = inl o
        go (cut o i a) = absurd (omega arith)
        go (none_open o i a) = inr i

    one_back : (c : Cable) → (c.over ≡ true) ⊎ (c.inside ≡ false) → answer_in (ending c).fed ≡ 1
    one_back c h = go (last c) h
      where
        go : Last c → (c.over ≡ true) ⊎ (c.inside ≡ false) → answer_in (ending c).fed ≡ 1
        go (again o a) h = a
        go (cut o i a) (inl x) = absurd (other _ x o)
        go (cut o i a) (inr x) = absurd (other _ i x)
        go (none_open o i a) h = a

    end_13 : (c : Cable) → answer_in (ending c).fed ≡ 13 → ⊥
    end_13 c z = go (last c)
      where
        go : Last c → ⊥
        go (again o a) = omega arith
        go (cut o i a) = omega arith
        go (none_open o i a) = omega arith
