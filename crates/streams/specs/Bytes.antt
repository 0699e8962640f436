-- The kinds of byte of MIDI 1.0, and the bytes of a system exclusive message.
use Rattle.std.specs.Prelude.{Bool, true, false, cond, List, [], ◌∷◌, ◌++◌, ℕ, suc, eqb, ltb}

-- 00H..7FH; F0H; F7H; the other bytes of 80H..F7H; F8H..FFH.
pub data ByteKind : Type 0 where
  dataByte exclusive endOfExclusive otherStatus realTime : ByteKind

unfoldable pub byte_kind : ℕ → ByteKind
byte_kind b =
    cond (ltb b 0x80) dataByte
    (cond (eqb b 0xF0) exclusive
    (cond (eqb b 0xF7) endOfExclusive
    (cond (ltb b 0xF8) otherStatus realTime)))

-- A byte in 80H..F7H ends the message before it.
abbrev pub ends : ByteKind → Bool
ends dataByte = false
ends exclusive = true
ends endOfExclusive = true
ends otherStatus = true
ends realTime = false

abbrev pub is_real_time : ByteKind → Bool
is_real_time dataByte = false
is_real_time exclusive = false
is_real_time endOfExclusive = false
is_real_time otherStatus = false
is_real_time realTime = true

-- The bytes up to the first in 80H..F7H.
unfoldable pub body : List ℕ → List ℕ
body [] = []
body (b ∷ s) = cond (ends (byte_kind b)) [] (b ∷ body s)

-- Bytes F8H..FFH are dropped inside a message.
unfoldable pub without_real_time : List ℕ → List ℕ
without_real_time [] = []
without_real_time (b ∷ s) = cond (is_real_time (byte_kind b)) (without_real_time s) (b ∷ without_real_time s)

-- How many bytes F8H..FFH stand in a list.
unfoldable pub real_time_in : List ℕ → ℕ
real_time_in [] = 0
real_time_in (b ∷ s) = cond (is_real_time (byte_kind b)) (suc (real_time_in s)) (real_time_in s)

-- A complete message: F0H, what stands between, F7H.
abbrev pub framed : List ℕ → List ℕ
framed c = 0xF0 ∷ (c ++ (0xF7 ∷ []))
