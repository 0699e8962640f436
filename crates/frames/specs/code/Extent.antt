-- Where a message starts among bytes and how far it runs, as counts.
use Rattle.std.specs.Prelude.{ℕ, suc, ◌+◌, cond, List, [], ◌∷◌, length, drop, ◌==◌}
use Rattle.streams.specs.Bytes.{is_real_time, byte_kind, body, real_time_in}
use Rattle.frames.specs.declared.Span.{Span}
use Rattle.frames.specs.declared.Ending.{Ending}
use Rattle.frames.specs.declared.Ending.TheVariants.{Whole, Interrupted, Cut}

-- How many bytes stand before the first F0H.
unfoldable pub ahead : List ℕ → ℕ
ahead [] = 0
ahead (b ∷ s) = cond (b == 0xF0) 0 (suc (ahead s))

-- How a message ends, by what stands behind its body.
abbrev pub ending_of : List ℕ → Ending
ending_of [] = Cut
ending_of (x ∷ r) = cond (x == 0xF7) Whole Interrupted

-- How many bytes a message has behind its F0H before the first byte in 80H..F7H, how many of them are real time, and how it ends.
unfoldable pub span_of : List ℕ → Span
span_of t = record { length = length (body t); noise = real_time_in (body t); ending = ending_of (drop (length (body t)) t) }

-- Where the first F0H at place p or later stands; the input's length, or p past it, where there is none.
unfoldable pub start_at : List ℕ → ℕ → ℕ
start_at s p = p + ahead (drop p s)

-- How many bytes F8H..FFH stand before the first that is none.
unfoldable pub real_time_ahead : List ℕ → ℕ
real_time_ahead [] = 0
real_time_ahead (b ∷ s) = cond (is_real_time (byte_kind b)) (suc (real_time_ahead s)) 0

-- Where the first byte at place p or later stands that is not real time; the number of bytes, or p past it, where there is none.
unfoldable pub past_real_time : List ℕ → ℕ → ℕ
past_real_time s p = p + real_time_ahead (drop p s)
