-- What the walk finds, by the place of the first F0H: none past the input's end, else what is heard of the bytes behind it.
use mathlib.Core.Path.{◌≡◌, ap, ◌∙◌}
use mathlib.Core.List.{List}
use Prim.Native.Nat.{ℕ, ◌+◌, ◌-◌, ◌^◌, ◌≤◌, ◌<◌}
use native.Mathlib.Omega.{arith}
use native.Mathlib.Numerals.{add-one}
use lib.ListN.{length, take, drop, length-drop}
use Rattle.answers.proofs.Lists.{to_end}
use Rattle.frames.specs.declared.Span.{Span}
use Rattle.frames.specs.code.Extent.{start_at, span_of}
use Rattle.frames.proofs.Found.{walk_none, walk_found}
use Rattle.messages.specs.Judge.{judge}
use Rattle.judging.specs.code.Heard.{Heard, heard_from}
use Rattle.reading.specs.code.Told.{none_read, end_from, walked_with, reading_from}
use Rattle.reading.proofs.Spans.{told_reading_from, end_within}

module _ (s : List ℕ) (place i : ℕ) (e : i ≡ start_at s place) where
  pub none_found : length s ≤ i → walked_with s place ≡ none_read (length s)
  none_found h = rw (walk_none judge s place (rw e at h))

  -- The bytes behind it, as the code lends them.
  abbrev pub behind : List ℕ
  behind = take (length s - (i + 1)) (drop (i + 1) s)

  pub found_there : i < length s → (h : Heard) → h ≡ heard_from behind → reading_from i h ≡ walked_with s place
  found_there l h q =
      let found = walk_found judge s place (rw e at l) in
      ap (reading_from i) q ∙ told_reading_from behind i ∙ rw (to_end (i + 1) s, found, add-one, e)

  -- Its end is a place.
  pub end_fits : i < length s → length s < 2 ^ 64 → (r : Span) → r ≡ span_of behind → end_from i r < 2 ^ 64
  end_fits l n r q = omega (arith, ap (end_from i) q, end_within behind i, ap length (to_end (i + 1) s), length-drop (i + 1) s)
