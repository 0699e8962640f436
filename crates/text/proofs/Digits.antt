-- A number's digits are those that std writes for it, and so are those of a number with a sign.
use mathlib.Core.Path.{◌≡◌, sym}
use mathlib.Core.List.{[], ◌∷◌, ◌++◌}
use Prim.Native.Nat.{ℕ, suc, ◌^◌, ◌<◌}
use native.Mathlib.Omega.{arith}
use lib.IntN.{ℤ, pos, negsuc}
use mir.Syntax.{w64}
use mir.Val.{SFits}
use Rattle.std.proofs.Common.{rules}
use Rattle.std.proofs.lemmas.Fmt.{AppendsLastDigit, decimal_from_appends, length-decimal-le}
use Rattle.std.specs.Fmt.{decimal as std_decimal, signed_decimal}
use Rattle.text.specs.Text.{ascii, decimal, digits_of, signed}

last_behind : AppendsLastDigit digits_of
unfolding digits_of
last_behind = search rules

pub decimal_same : (n : ℕ) → n < 2 ^ 64 → std_decimal n ≡ decimal n
decimal_same n h =
    sym (decimal_from_appends digits_of last_behind 20 n h (length-decimal-le 20 n (omega arith) (omega arith) h))

pub signed_same : (v : ℤ) (b : ℕ) → SFits w64 v → signed_decimal v ++ (b ∷ []) ≡ signed v b
unfolding ascii
signed_same (pos n) b f = let small : n < 2 ^ 63 = f.sfits in rw (decimal_same n (omega arith))
signed_same (negsuc n) b f = let small : n < 2 ^ 63 = f.sfits in rw (decimal_same (suc n) (omega arith))
