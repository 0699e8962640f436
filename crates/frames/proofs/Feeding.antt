-- What a call that is fed bytes takes, by the counts that the code has: from outside by the bytes before the first F0H, inside a message by its span.
use Rattle.std.proofs.Common.{◌≡◌, ℕ, suc, ◌+◌, ◌<◌, ◌≤◌, Bool, true, false, cond, eqb, List, [], ◌∷◌, ◌++◌, length, get_or, take, drop, sym, refl, ap, ◌∙◌, add-zero, arith, length-take-le}
use mathlib.Core.Option.{none, some}
use Rattle.answers.specs.Table.{Verdict, refused, outcome}
use Rattle.streams.specs.Bytes.{byte_kind, body, without_real_time, real_time_in, framed}
use Rattle.streams.specs.Stream.{report}
use Rattle.streams.specs.Feed.{taking, onward, taken}
use Rattle.streams.specs.code.Scan.{outside, inside}
use Rattle.streams.proofs.Bytes.{body_within, body_take}
use Rattle.streams.proofs.Noise.{kept_and_dropped}
use Rattle.streams.proofs.Scan.{further, next_outside}
use Rattle.streams.proofs.Feed.{past, taken_cut, taken_closed, taken_broken}
use Rattle.frames.specs.declared.Span.{Span}
use Rattle.frames.specs.declared.Ending.TheVariants.{Whole, Interrupted, Cut}
use Rattle.frames.specs.code.Extent.{ahead, span_of, ending_of}
use Rattle.frames.proofs.Extent.{behind_cut, behind_whole, behind_interrupted}

module _ (judge : List ℕ → Verdict) where
  -- Inside a message: its span says what is taken.
  module _ (t : List ℕ) (s : Span) (e : s ≡ span_of t) where
    span_length : s.length ≡ length (body t)
    unfolding span_of
    span_length = ap (λ (x : Span). x.length) e

    span_noise : s.noise ≡ real_time_in (body t)
    unfolding span_of
    span_noise = ap (λ (x : Span). x.noise) e

    span_ending : s.ending ≡ ending_of (drop (length (body t)) t)
    unfolding span_of
    span_ending = ap (λ (x : Span). x.ending) e

    pub span_within : s.length ≤ length t
    span_within = omega (arith, span_length, body_within t)

    pub span_taken : s.length ≡ length (take s.length t)
    span_taken = sym (length-take-le s.length t span_within)

    -- The bytes that it counts are the body.
    pub span_body : take s.length t ≡ body t
    span_body = rw span_length (body_take t)

    pub span_heard : s.noise ≡ real_time_in (take s.length t)
    span_heard = span_noise ∙ rw span_body

    -- What stands behind the body.
    abbrev rest : List ℕ
    rest = drop (length (body t)) t

    -- No more of them are real time than there are.
    pub span_quiet : s.noise ≤ s.length
    span_quiet = omega (arith, span_noise, span_length, kept_and_dropped (body t))

    module _ (p f : ℕ) (c : List ℕ) (k : ℕ) where
      abbrev pub whole : List ℕ
      whole = c ++ without_real_time (take s.length t)

      pub fed_cut : s.ending ≡ Cut → taken judge p (inside f c k) t ≡ taking s.length (inside f whole (k + s.noise)) none
      fed_cut z = taken_cut judge p f c k t (behind_cut rest (sym span_ending ∙ z)) ∙ rw (span_body, span_length, span_noise)

      pub fed_closed : s.ending ≡ Whole
          → taken judge p (inside f c k) t ≡ taking (s.length + 1) outside (some (report f (p + (s.length + 1)) (judge (framed whole)) (k + s.noise)))
      fed_closed z =
          let end : suc (p + length (body t)) ≡ p + (length (body t) + 1) = omega arith in
          taken_closed judge p f c k t (drop 1 rest) (behind_whole rest (sym span_ending ∙ z)) ∙ rw (span_body, span_length, span_noise, end)

      pub fed_broken : s.ending ≡ Interrupted
          → taken judge p (inside f c k) t ≡ taking s.length outside (some (report f (p + s.length) (refused (outcome 3 0)) (k + s.noise)))
      fed_broken z =
          let b = behind_interrupted rest (sym span_ending ∙ z) in
          taken_broken judge p f c k t (get_or rest 0 0) (drop 1 rest) b.0 b.1 ∙ rw (span_length, span_noise)

  -- Outside a message all is taken where there is no F0H.
  pub fed_none : (t : List ℕ) (p : ℕ) → length t ≤ ahead t → taken judge p outside t ≡ taking (length t) outside none
  unfolding ahead
  fed_none [] p h = refl
  fed_none (b ∷ t) p h = rw (next_outside b p) (by_test (eqb b 0xF0) h (fed_none t (suc p)))
    where
      by_test : (v : Bool) → suc (length t) ≤ cond v 0 (suc (ahead t)) → (length t ≤ ahead t → taken judge (suc p) outside t ≡ taking (length t) outside none)
          → onward (byte_kind b) [] (taken judge (suc p) (cond v (inside p [] 0) outside) t) ≡ taking (suc (length t)) outside none
      by_test true k i = absurd (omega arith)
      by_test false k i = rw (i (omega arith))

  -- The first F0H is taken with what stands before it, and then what is taken inside the message there.
  pub fed_found : (t : List ℕ) (p : ℕ) → ahead t < length t
      → taken judge p outside t ≡ past (ahead t + 1) (taken judge (p + ahead t + 1) (inside (p + ahead t) [] 0) (drop (ahead t + 1) t))
  unfolding ahead
  fed_found [] p h = absurd (omega arith)
  fed_found (b ∷ t) p h = rw (next_outside b p) (by_test (eqb b 0xF0) h (fed_found t (suc p)))
    where
      by_test : (v : Bool) → cond v 0 (suc (ahead t)) < suc (length t)
          → (ahead t < length t
          → taken judge (suc p) outside t ≡ past (ahead t + 1) (taken judge (suc p + ahead t + 1) (inside (suc p + ahead t) [] 0) (drop (ahead t + 1) t)))
          → onward (byte_kind b) [] (taken judge (suc p) (cond v (inside p [] 0) outside) t)
          ≡ past (cond v 0 (suc (ahead t)) + 1) (taken judge (p + cond v 0 (suc (ahead t)) + 1) (inside (p + cond v 0 (suc (ahead t))) [] 0) (drop (cond v 0 (suc (ahead t)) + 1) (b ∷ t)))
      by_test true k i =
          let e : p + 0 + 1 ≡ suc p = omega arith in
          let u = taken judge (suc p) (inside p [] 0) t in
          let o : suc u.count ≡ 0 + 1 + u.count = omega arith in
          rw (e, add-zero p, o)
      by_test false k i =
          let e : suc (ahead t) + 1 ≡ suc (ahead t + 1) = omega arith in
          let u = taken judge (suc p + ahead t + 1) (inside (suc p + ahead t) [] 0) (drop (ahead t + 1) t) in
          let o : suc (ahead t + 1 + u.count) ≡ suc (ahead t + 1) + u.count = omega arith in
          rw (e, further p (ahead t), i (omega arith), o)
