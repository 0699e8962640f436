-- A stored byte with its sign.
use Rattle.std.specs.Prelude.{ℕ, ◌-◌, Bool, cond, ◌&&◌, ℤ, pos, neg_ℤ, int_le, nat_lt}

abbrev pub plus : ℕ → ℤ
plus n = pos n

abbrev pub minus : ℕ → ℤ
minus n = neg_ℤ (pos n)

-- Two's complement in eight bits: a byte below 80H is itself, another one stands for minus what it lacks to 256.
unfoldable pub value_of : ℕ → ℤ
value_of b = cond (nat_lt b 0x80) (plus b) (minus (256 - b))

-- The value of a field's byte: with its sign where the field is signed, else the byte itself.
unfoldable pub value_by : Bool → ℕ → ℤ
value_by signed b = cond signed (value_of b) (plus b)

-- A value lies between two others.
abbrev pub from_to : ℤ → ℤ → ℤ → Bool
from_to least greatest v = int_le least v && int_le v greatest
