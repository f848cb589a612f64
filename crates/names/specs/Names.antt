-- Names: their characters, their rules, the field that holds one, and when an entry fits one. Assumes nothing.
--   characters   the characters of a name as given, or of a name field: what stands before the first ETX, or all of it
--   same_name    two names have the same characters
--   is_whole     a name is a whole name: what a file may be called
--   is_stem      a name is a stem: a whole name without its type letter, its last character
--   is_volume    a name is a volume's name
--   name_field   the twelve bytes that hold a name: its characters, ETX, zeros
--   fits_whole   a whole name fits an entry with this name field
--   fits_stem    a stem fits an entry with this name field
use Rattle.std.specs.Prelude.{ℕ, ◌-◌, Bool, true, cond, not, ◌&&◌, ◌||◌, List, [], ◌∷◌, ◌++◌, length, take, replicate, codes, ◌==◌, nat_le}
use Rattle.std.specs.List.{list_all}
use Rattle.std.specs.Str.{bytes_eq}

abbrev pub characters : List ℕ → List ℕ
characters [] = []
characters (b ∷ rest) = cond (b == 3) [] (b ∷ characters rest)

abbrev pub same_name : List ℕ → List ℕ → Bool
same_name one other = bytes_eq (characters one) (characters other)

-- A character of a name lies from space to tilde.
abbrev pub printable : ℕ → Bool
printable b = nat_le 32 b && nat_le b 126

-- A to Z, or a to z.
abbrev pub is_letter : ℕ → Bool
is_letter b = (nat_le 65 b && nat_le b 90) || (nat_le 97 b && nat_le b 122)

abbrev pub all_printable : List ℕ → Bool
all_printable cs = list_all printable cs

-- The last character, if there is one, is a letter.
abbrev pub last_is_letter : List ℕ → Bool
last_is_letter [] = true
last_is_letter (b ∷ []) = is_letter b
last_is_letter (b ∷ (c ∷ rest)) = last_is_letter (c ∷ rest)

-- Printable characters, `low` to `high` of them.
abbrev pub spelled : ℕ → ℕ → List ℕ → Bool
spelled low high cs = nat_le low (length cs) && (nat_le (length cs) high && all_printable cs)

-- The names of the entries that are no files.
abbrev pub is_reserved : List ℕ → Bool
is_reserved given = same_name given (codes "BOOT") || (same_name given (codes "DIRECTORY") || same_name given (codes "BLOCKS LEFT"))

abbrev pub is_whole : List ℕ → Bool
is_whole given = spelled 2 11 (characters given) && (last_is_letter (characters given) && not (is_reserved given))

abbrev pub is_stem : List ℕ → Bool
is_stem given = spelled 1 10 (characters given)

abbrev pub is_volume : List ℕ → Bool
is_volume given = spelled 1 11 (characters given)

abbrev pub name_field : List ℕ → List ℕ
name_field given = characters given ++ (3 ∷ replicate (11 - length (characters given)) 0)

-- The characters before the last one.
abbrev pub before_last : List ℕ → List ℕ
before_last cs = take (length cs - 1) cs

abbrev pub fits_whole : List ℕ → List ℕ → Bool
fits_whole name field = same_name name field

-- An entry's name without its last character, whatever that is, is the stem. (A stem has a character, so an entry
-- whose name is empty fits none.)
abbrev pub fits_stem : List ℕ → List ℕ → Bool
fits_stem stem field = same_name stem (before_last (characters field))
