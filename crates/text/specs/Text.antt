-- Text in ASCII: words, numbers in decimal with and without a sign; and text put into lent room.
use Rattle.std.specs.Prelude.{◌≡◌, cond, List, [], ◌∷◌, ◌++◌, ℕ, zero, suc, ◌+◌, ◌-◌, ◌/◌, ◌%◌, ◌≤◌, ltb, ℤ, pos, negsuc, length, take, drop}
use Prim.Native.Char.{code}
use Prim.Native.String.{String, [] as no_letter, ◌∷◌ as letter}
use Rattle.text.specs.declared.Text.{Text}

-- The bytes of a word.
unfoldable pub ascii : String → List ℕ
ascii no_letter = []
ascii (letter c w) = code c ∷ ascii w

-- The digits of a number in decimal: the last one stands behind those of the tenth part. At most k of them.
unfoldable pub digits_of : ℕ → ℕ → List ℕ
digits_of zero n = []
digits_of (suc k) n = cond (ltb n 10) ((48 + n) ∷ []) (digits_of k (n / 10) ++ ((48 + n % 10) ∷ []))

-- A number of 64 bits has at most 20 digits.
abbrev pub decimal : ℕ → List ℕ
decimal n = digits_of 20 n

-- A number and the byte behind it.
abbrev pub followed : ℕ → ℕ → List ℕ
followed n b = decimal n ++ (b ∷ [])

-- A number with its sign, and the byte behind it.
abbrev pub signed : ℤ → ℕ → List ℕ
signed (pos n) b = followed n b
signed (negsuc n) b = ascii "-" ++ followed (suc n) b

-- Numbers, a space behind each.
unfoldable pub spaced : List ℕ → List ℕ
spaced [] = []
spaced (n ∷ ns) = followed n 0x20 ++ spaced ns

-- As many of the bytes w as a room has place for from place `at` on.
abbrev pub fitting : List ℕ → List ℕ → ℕ → List ℕ
fitting w room at = take (length room - at) w

-- The bytes w stand in a room from place `at` on, as many as fit, its other bytes are kept, and `end` is the place behind them.
pub record Puts (w old : List ℕ) (at : ℕ) (new : List ℕ) (end : ℕ) : Type 0 where
  pub ends : end ≡ at + length (fitting w old at)
  pub text : new ≡ take at old ++ (fitting w old at ++ drop end old)

-- A text gains the bytes w: they are put behind it, in the same room.
pub record Gains (w : List ℕ) (old new : Text) : Type 0 where
  pub same_room : new.room.ghost_name ≡ old.room.ghost_name
  pub puts : Puts w old.room.now old.end new.room.now new.end

-- A text is the bytes w alone, whatever it was before: they stand at the start of the same room.
pub record Holds (w : List ℕ) (old new : Text) : Type 0 where
  pub same_room : new.room.ghost_name ≡ old.room.ghost_name
  pub puts : Puts w old.room.now 0 new.room.now new.end

-- What stands before place n of a room can be lent, and is n bytes. The second part follows from the first, and spares a caller's `&room[..n]` a
-- proof file.
abbrev pub IsPrefixLen : ℕ → List ℕ → Type 0
IsPrefixLen n room = (n ≤ length room) × (n ≡ length (take n room))
