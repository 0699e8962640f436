-- Document 02 (viii), how noisy was the line: what the number in a report says of the bytes from its start to its end.
use Rattle.std.specs.Prelude.{◌≡◌, cond, List, [], ◌∷◌, ◌++◌, ◌↔◌, ℕ, suc, ◌+◌, eqb, length, drop}
use Rattle.std.proofs.Math.Option.{some}
use Rattle.answers.specs.Lists.{All}
use Rattle.answers.specs.Table.{Verdict}
use Rattle.streams.specs.Bytes.{body, without_real_time, real_time_in}
use Rattle.streams.specs.Stream.{Report, between, walk, reports_from}

-- What the number n says of the bytes of s from one place up to another.
pub record Counted (s : List ℕ) (start end n : ℕ) : Type 0 where
  -- it is how many of them are F8H..FFH
  pub counted : n ≡ real_time_in (between s start end)
  -- end minus start is the length after dropping, plus this number
  pub length_and_noise : end ≡ start + (length (without_real_time (between s start end)) + n)
  -- it is 0 exactly when nothing was dropped
  pub quiet : (n ≡ 0) ↔ (without_real_time (between s start end) ≡ between s start end)

-- F7H closes a message and is its last byte; another byte does not, nor does the end of the input.
abbrev pub closed_with : List ℕ → List ℕ
closed_with [] = []
closed_with (x ∷ r) = cond (eqb x 0xF7) (x ∷ []) []

module _ (judge : List ℕ → Verdict) (s : List ℕ) where
  -- What a report says of the bytes t behind its F0H, of which the last are those from the byte on that ends the message.
  pub record HeardOf (r : Report) (t last : List ℕ) : Type 0 where
    pub count : Counted s r.start r.end r.noise
    -- a message runs to the first later byte in 80H..F7H, with it if that is F7H
    pub runs : between s r.start r.end ≡ 0xF0 ∷ (body t ++ closed_with last)
    -- what is left after dropping is what a complete message is judged by
    pub judged : closed_with last ≡ 0xF7 ∷ [] → r.verdict ≡ judge (without_real_time (between s r.start r.end))

  abbrev pub Heard : Report → Type 0
  Heard r = let t = drop (suc r.start) s in HeardOf r t (drop (length (body t)) t)

  -- So it is with what the walk finds from any place, and with every report from any place on.
  pub record HowNoisy : Type 0 where
    pub found : (p : ℕ) (r : Report) → walk judge s p ≡ some r → Heard r
    pub each : (p : ℕ) → All Heard (reports_from judge (length s) s p)
