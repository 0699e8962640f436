-- What stands before a message's end is among the bytes fed, and its real time is counted.
use mathlib.Core.Path.{◌≡◌, refl, sym}
use mathlib.Core.List.{List}
use Prim.Native.Nat.{ℕ, ◌+◌, ◌-◌, ◌≤◌}
use lib.ListN.{length, take, drop, length-drop}
use Rattle.answers.proofs.Lists.{to_end}
use Rattle.streams.specs.Bytes.{real_time_in}
use Rattle.messages.specs.Judge.{judge}
use Rattle.frames.specs.code.Extent.{span_of}
use Rattle.frames.proofs.Extent.{ahead_within}
use Rattle.frames.proofs.Feeding.{span_within, span_taken, span_heard, span_quiet}

-- So many bytes stand before the end, and no more of them are real time.
pub before_end : (t : List ℕ) → (span_of t).length ≤ length t
before_end t = span_within judge t (span_of t) refl

pub few_quiet : (t : List ℕ) → (span_of t).noise ≤ (span_of t).length
few_quiet t = span_quiet judge t (span_of t) refl

pub length_before : (t : List ℕ) → length (take (span_of t).length t) ≡ (span_of t).length
length_before t = sym (span_taken judge t (span_of t) refl)

pub noise_before : (t : List ℕ) → real_time_in (take (span_of t).length t) ≡ (span_of t).noise
noise_before t = sym (span_heard judge t (span_of t) refl)

-- The bytes behind place a, as they are lent.
pub length_behind : (a : ℕ) (s : List ℕ) → length (take (length s - (a + 1)) (drop (a + 1) s)) ≡ length s - (a + 1)
length_behind a s = rw to_end (length-drop (a + 1) s)

pub ruleset spans = (before_end, few_quiet, length_before, noise_before, length_behind, ahead_within)
