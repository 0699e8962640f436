-- A message that was heard, with its places: it comes to the same wherever its F0H stands, and ends there by its span.
use mathlib.Core.Path.{◌≡◌, refl, ap, ◌∙◌}
use mathlib.Core.Bool.{Bool, true, false, cond}
use mathlib.Core.List.{List, [], ◌∷◌, ◌++◌}
use Prim.Native.Nat.{ℕ, suc, ◌+◌, ◌≤◌}
use native.Mathlib.Omega.{arith}
use lib.Dec.{leb}
use lib.ListN.{length, drop, length-drop}
use Rattle.answers.specs.Table.{Verdict, done, refused, outcome, four}
use Rattle.answers.specs.Effect.{Effect, Gives, told_as}
use Rattle.streams.specs.Bytes.{body, real_time_in}
use Rattle.streams.specs.Stream.{report, message_at, reading, read_into}
use Rattle.streams.specs.Stream as stream
use Rattle.streams.proofs.Bytes.{body_within}
use Rattle.frames.specs.code.Extent.{span_of, ending_of}
use Rattle.frames.specs.declared.Ending.{Ending}
use Rattle.frames.specs.declared.Ending.TheVariants.{Whole, Interrupted, Cut}
use Rattle.frames.proofs.Found.{message_cut, message_interrupted, message_complete}
use Rattle.messages.specs.Judge.{judge}
use Rattle.judging.specs.code.Judged.{Judged, bytes_in, told, recorded_as}
use Rattle.judging.specs.code.Heard.{Heard, verdict_from, heard_from, recorded_from}
use Rattle.reading.specs.code.Told.{closing, end_from, report_of, report_from, reading_of, reading_from, read_message}

module _ (t : List ℕ) where
  pub span_length : (span_of t).length ≡ length (body t)
  unfolding span_of
  span_length = refl

  abbrev ended : Ending
  ended = ending_of (drop (length (body t)) t)

  -- The message at place f.
  pub placed_message : (f : ℕ) → message_at judge f t ≡ report f (end_from f (span_of t)) (verdict_from t) (span_of t).noise
  unfolding span_of
  placed_message f = by_ending ended refl
    where
      by_ending : (e : Ending) → ended ≡ e
          → message_at judge f t ≡ report f (f + 1 + length (body t) + closing e) (verdict_from t) (real_time_in (body t))
      by_ending Whole q =
          let end : suc (suc f + length (body t)) ≡ f + 1 + length (body t) + 1 = omega arith in
          message_complete judge f t q
          ∙ rw (end, ap (λ (r : stream.Report). r.verdict) (message_complete judge 0 t q))
      by_ending Interrupted q =
          let end : suc f + length (body t) ≡ f + 1 + length (body t) + 0 = omega arith in
          message_interrupted judge f t q
          ∙ rw (end, ap (λ (r : stream.Report). r.verdict) (message_interrupted judge 0 t q))
      by_ending Cut q =
          let end : suc f + length (body t) ≡ f + 1 + length (body t) + 0 = omega arith in
          message_cut judge f t q
          ∙ rw (end, ap (λ (r : stream.Report). r.verdict) (message_cut judge 0 t q))

  pub told_report_from : (f : ℕ) → report_from f (heard_from t) ≡ report_of (message_at judge f t)
  told_report_from f = rw (placed_message f)

  -- The same with the bytes that come with the answer.
  pub told_reading_from : (f : ℕ) → reading_from f (heard_from t)
      ≡ record { report = report_of (message_at judge f t); bytes = four (bytes_in (message_at judge f t).verdict) }
  told_reading_from f = rw (placed_message f)

  -- A complete message has a byte behind its body, so it ends within the bytes.
  pub end_within : (f : ℕ) → end_from f (span_of t) ≤ f + 1 + length t
  unfolding span_of
  end_within f = by_rest (drop (length (body t)) t) refl
    where
      by_rest : (r : List ℕ) → drop (length (body t)) t ≡ r → f + 1 + length (body t) + closing (ending_of r) ≤ f + 1 + length t
      by_rest [] q = omega (arith, body_within t)
      by_rest (x ∷ r) q = by_ending (ending_of (x ∷ r))
        where
          by_ending : (e : Ending) → f + 1 + length (body t) + closing e ≤ f + 1 + length t
          by_ending Whole = omega (arith, ap length q, length-drop (length (body t)) t)
          by_ending Interrupted = omega (arith, body_within t)
          by_ending Cut = omega (arith, body_within t)

  -- Its packed bytes fit a lent buffer, or not.
  abbrev fitted : ℕ → ℕ → ℕ → ℕ → List ℕ → List ℕ → List ℕ → Bool → Effect stream.Reading
  fitted f e n op b p lent v =
      cond v
      (record { result = reading f e (outcome 0 op) n b; lent = p ++ drop (length p) lent })
      (record { result = reading f e (outcome 13 0) n []; lent = lent })

  -- Its record, with its places and its noise.
  placed : (f e n : ℕ) (v : Verdict) (lent : List ℕ) (j : Judged) (after : List ℕ) → Gives (recorded_as v lent) j after
      → Gives (told_as reading_of (read_into f e v n lent))
      (record { report = record { start = f; end = e; outcome = j.outcome; noise = n }; bytes = j.bytes }) after
  placed f e n (refused o) lent j after g = record { result = rw g.result; lent = g.lent }
  placed f e n (done op b p) lent j after g = by_test (leb (length p) (length lent)) g
    where
      by_test : (v : Bool) → Gives (told_as told (fitted 0 0 0 op b p lent v)) j after
          → Gives (told_as reading_of (fitted f e n op b p lent v))
          (record { report = record { start = f; end = e; outcome = j.outcome; noise = n }; bytes = j.bytes }) after
      by_test true g = record { result = rw g.result; lent = g.lent }
      by_test false g = record { result = rw g.result; lent = g.lent }

  pub read_from : (f : ℕ) (lent : List ℕ) (h : Heard) (after : List ℕ) → Gives (recorded_from t lent) h after
      → Gives (read_message f t lent) (reading_from f h) after
  read_from f lent h after g =
      let j = (recorded_as (verdict_from t) lent).result in
      let p = placed f (end_from f (span_of t)) (span_of t).noise (verdict_from t) lent j after (record { result = refl; lent = g.lent }) in
      rw (placed_message f, g.result) p
