-- Pieces of text that the commands print. Assumes nothing.
--   escaped   bytes of a name as people can read them
--   left      a text with spaces behind it, up to a width; right: with spaces before it
--   counted   so many of a thing, as `1 file` and `2 files`
use Rattle.std.specs.Prelude.{ℕ, ◌+◌, ◌-◌, ◌/◌, ◌%◌, cond, List, [], ◌∷◌, ◌++◌, length, replicate, codes, decimal, ◌==◌, nat_lt}
use Rattle.std.specs.List.{flat_map}
use Rattle.names.specs.Names.{printable}

-- A hexadecimal digit, in capitals.
abbrev pub hex_digit : ℕ → ℕ
hex_digit n = cond (nat_lt n 10) (48 + n) (55 + n)

-- A byte as `\x` and two digits.
abbrev pub hex_byte : ℕ → List ℕ
hex_byte b = 92 ∷ 120 ∷ hex_digit (b / 16) ∷ hex_digit (b % 16) ∷ []

-- A printable byte stands for itself, but a backslash is doubled; any other byte is written in hexadecimal.
abbrev pub escaped_byte : ℕ → List ℕ
escaped_byte b = cond (b == 92) (92 ∷ 92 ∷ []) (cond (printable b) (b ∷ []) (hex_byte b))

abbrev pub escaped : List ℕ → List ℕ
escaped bytes = flat_map escaped_byte bytes

abbrev pub spaces : ℕ → List ℕ
spaces n = replicate n 32

abbrev pub left : ℕ → List ℕ → List ℕ
left width text = text ++ spaces (width - length text)

abbrev pub right : ℕ → List ℕ → List ℕ
right width text = spaces (width - length text) ++ text

abbrev pub counted : ℕ → List ℕ → List ℕ
counted n thing = decimal n ++ (codes " " ++ (thing ++ cond (n == 1) [] (codes "s")))
