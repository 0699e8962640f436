-- What is heard of a message by its span: how long its body is, the real time in it, and how it ends.
use Rattle.std.proofs.Common.{◌≡◌, ℕ, ◌≤◌, List, length, take, drop, sym, ap, ◌∙◌, arith, length-take-le}
use Rattle.answers.specs.Table.{refused, outcome}
use Rattle.answers.specs.Effect.{Gives}
use Rattle.streams.specs.Bytes.{body, without_real_time, real_time_in, framed}
use Rattle.streams.specs.Stream.{Report}
use Rattle.streams.proofs.Bytes.{body_within, body_take}
use Rattle.frames.specs.declared.Span.{Span}
use Rattle.frames.specs.declared.Ending.TheVariants.{Whole, Interrupted, Cut}
use Rattle.frames.specs.code.Extent.{span_of, ending_of}
use Rattle.frames.proofs.Found.{message_cut, message_interrupted, message_complete}
use Rattle.messages.specs.Judge.{judge}
use Rattle.judging.specs.code.Judged.{Judged, judged, recorded_as}
use Rattle.judging.specs.code.Heard.{verdict_from, heard_as, heard_from, recorded_from}

module _ (t : List ℕ) (s : Span) (e : s ≡ span_of t) where
  span_length : s.length ≡ length (body t)
  unfolding span_of
  span_length = ap (λ (x : Span). x.length) e

  span_ending : s.ending ≡ ending_of (drop (length (body t)) t)
  unfolding span_of
  span_ending = ap (λ (x : Span). x.ending) e

  -- The bytes that it counts are the body.
  span_body : take s.length t ≡ body t
  span_body = rw span_length (body_take t)

  pub span_within : s.length ≤ length t
  span_within = omega (arith, span_length, body_within t)

  pub span_taken : s.length ≡ length (take s.length t)
  span_taken = sym (length-take-le s.length t span_within)

  pub span_noise : s.noise ≡ real_time_in (take s.length t)
  unfolding span_of
  span_noise = ap (λ (x : Span). x.noise) e ∙ rw span_body

  -- What the message comes to, by how it ends.
  pub verdict_cut : s.ending ≡ Cut → verdict_from t ≡ refused (outcome 2 0)
  verdict_cut z = ap (λ (r : Report). r.verdict) (message_cut judge 0 t (sym span_ending ∙ z))

  pub verdict_interrupted : s.ending ≡ Interrupted → verdict_from t ≡ refused (outcome 3 0)
  verdict_interrupted z = ap (λ (r : Report). r.verdict) (message_interrupted judge 0 t (sym span_ending ∙ z))

  pub verdict_judged : s.ending ≡ Whole → verdict_from t ≡ judge (framed (without_real_time (take s.length t)))
  verdict_judged z =
      ap (λ (r : Report). r.verdict) (message_complete judge 0 t (sym span_ending ∙ z))
      ∙ ap (λ (b : List ℕ). judge (framed (without_real_time b))) (sym span_body)

  -- That is what is heard.
  pub heard_so : (j : Judged) → j ≡ judged (verdict_from t) → heard_as s j ≡ heard_from t
  heard_so j k = rw (k, e)

  pub recorded_so : (lent : List ℕ) (j : Judged) (after : List ℕ) → Gives (recorded_as (verdict_from t) lent) j after
      → Gives (recorded_from t lent) (heard_as s j) after
  recorded_so lent j after g = record { result = rw (g.result, e); lent = g.lent }
