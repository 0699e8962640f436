-- Values as numbers of 64 bits, in two's complement.
use Rattle.std.specs.Prelude.{cond, ℕ, suc, ◌-◌, ◌^◌, ltb, ℤ, pos, negsuc}

-- A value below zero is 2 ^ 64 less its size.
unfoldable pub as_number : ℤ → ℕ
as_number (pos n) = n
as_number (negsuc n) = 2 ^ 64 - suc n

-- The value that a number stands for.
unfoldable pub of_number : ℕ → ℤ
of_number n = cond (ltb n (2 ^ 63)) (pos n) (negsuc (2 ^ 64 - suc n))
