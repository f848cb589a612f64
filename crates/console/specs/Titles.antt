-- Names on a line. Assumes nothing.
--   name_of      the bytes of the name that a field gives: `'text'`, or `hex:` and the digits of each byte
--   name_bytes   the bytes that a name stands for
--   hex_bytes    the bytes that hexadecimal digits stand for, two digits a byte
use Rattle.std.specs.Prelude.{ℕ, ◌+◌, ◌-◌, ◌*◌, ◌%◌, Bool, cond, not, ◌&&◌, ◌||◌, List, [], ◌∷◌, length, take, drop, Some, None, codes, Option, ◌==◌, nat_le, slice_index}
use Rattle.std.specs.List.{list_all}
use Rattle.std.specs.Option.{option_map}
use Rattle.std.specs.Str.{bytes_eq}
use Rattle.console.specs.declared.titles.Name.{Name}
use Rattle.console.specs.declared.titles.Name.TheVariants.{Quoted, Hex}

-- A printable byte that is no quote.
abbrev pub is_plain : ℕ → Bool
is_plain b = nat_le 32 b && (nat_le b 126 && not (b == 39))

abbrev pub all_plain : List ℕ → Bool
all_plain text = list_all is_plain text

-- The first byte is a quote and the last one another, which is not the same byte.
abbrev pub is_quoted : List ℕ → Bool
is_quoted field = nat_le 2 (length field) && (slice_index field 0 == 39 && slice_index field (length field - 1) == 39)

-- A field without its first and its last byte.
abbrev pub inner : List ℕ → List ℕ
inner field = take (length field - 2) (drop 1 field)

abbrev pub quoted_text : List ℕ → Option (List ℕ)
quoted_text field = cond (is_quoted field && all_plain (inner field)) (Some (inner field)) None

-- 0 to 9, A to F, or a to f.
abbrev pub is_hex_digit : ℕ → Bool
is_hex_digit b = (nat_le 48 b && nat_le b 57) || ((nat_le 65 b && nat_le b 70) || (nat_le 97 b && nat_le b 102))

abbrev pub all_digits : List ℕ → Bool
all_digits digits = list_all is_hex_digit digits

abbrev pub even_digits : List ℕ → Bool
even_digits digits = length digits % 2 == 0 && all_digits digits

abbrev pub hex_digits : List ℕ → Option (List ℕ)
hex_digits field = cond (bytes_eq (take 4 field) (codes "hex:") && even_digits (drop 4 field)) (Some (drop 4 field)) None

abbrev pub hex_value : ℕ → ℕ
hex_value b = cond (nat_le 48 b && nat_le b 57) (b - 48) (cond (nat_le 65 b && nat_le b 70) (b - 55) (cond (nat_le 97 b && nat_le b 102) (b - 87) 0))

abbrev pub pair_value : ℕ → ℕ → ℕ
pair_value high low = hex_value high * 16 + hex_value low

abbrev pub hex_bytes : List ℕ → List ℕ
hex_bytes [] = []
hex_bytes (odd ∷ []) = []
hex_bytes (high ∷ (low ∷ rest)) = pair_value high low ∷ hex_bytes rest

abbrev pub name_bytes : Name → List ℕ
name_bytes (Quoted text) = text.now
name_bytes (Hex digits) = hex_bytes digits.now

abbrev pub either : Option (List ℕ) → Option (List ℕ) → Option (List ℕ)
either (Some text) digits = Some text
either None digits = option_map hex_bytes digits

abbrev pub name_of : List ℕ → Option (List ℕ)
name_of field = either (quoted_text field) (hex_digits field)
