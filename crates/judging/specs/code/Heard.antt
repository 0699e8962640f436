-- What is heard of the message behind an F0H, before the bytes t: how far it runs, and what it comes to.
use Rattle.std.specs.Prelude.{List, ℕ}
use Rattle.answers.specs.Table.{Verdict}
use Rattle.answers.specs.Effect.{Effect, told_as}
use Rattle.streams.specs.Stream.{message_at}
use Rattle.frames.specs.declared.Span.{Span}
use Rattle.frames.specs.code.Extent.{span_of}
use Rattle.messages.specs.Judge.{judge}
use Rattle.judging.specs.declared.Heard.{Heard as HeardInCode}
use Rattle.judging.specs.code.Judged.{Judged, judged, told_judged, recorded_as}

-- It does not hang on where the F0H stands.
abbrev pub verdict_from : List ℕ → Verdict
verdict_from t = (message_at judge 0 t).verdict

-- How far a message runs, and what it comes to.
pub record Heard : Type 0 where
  pub span : Span
  pub judged : Judged

abbrev pub heard_as : Span → Judged → Heard
heard_as s j = record { span = s; judged = j }

abbrev pub heard_from : List ℕ → Heard
heard_from t = heard_as (span_of t) (judged (verdict_from t))

-- What the code answers, as it is told.
abbrev pub told_heard : HeardInCode → Heard
told_heard h = heard_as h.span (told_judged h.judged)

-- The same with its packed bytes at the start of a lent buffer.
abbrev pub recorded_from : List ℕ → List ℕ → Effect Heard
recorded_from t lent = told_as (heard_as (span_of t)) (recorded_as (verdict_from t) lent)
