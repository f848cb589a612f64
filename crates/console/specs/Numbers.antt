-- Numbers in decimal. Assumes nothing.
--   number_of   the number that a field says: one or more digits, zeros in front allowed, and below 2 ^ 32
use Rattle.std.specs.Prelude.{ℕ, ◌+◌, ◌-◌, ◌*◌, ◌^◌, cond, ◌&&◌, List, [], ◌∷◌, Some, None, Option, nat_le, nat_lt}

abbrev pub fitting : ℕ → Option ℕ
fitting n = cond (nat_lt n (2 ^ 32)) (Some n) None

-- A number with one more digit behind it.
abbrev pub with_digit : ℕ → ℕ → Option ℕ
with_digit number digit = cond (nat_le 48 digit && nat_le digit 57) (fitting (number * 10 + (digit - 48))) None

-- A number with more digits behind it.
abbrev pub with_digits : Option ℕ → List ℕ → Option ℕ
with_digits None digits = None
with_digits (Some number) [] = Some number
with_digits (Some number) (digit ∷ rest) = with_digits (with_digit number digit) rest

abbrev pub number_of : List ℕ → Option ℕ
number_of [] = None
number_of (digit ∷ rest) = with_digits (Some 0) (digit ∷ rest)
