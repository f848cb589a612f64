-- A name field keeps what its name keeps: the laws of the rules of names. Assumes nothing.
--   characters-field   a name field reads back as the name that it was made of
--   field-field        a name field is its own name field
--   whole_field, stem_field, volume_field   a name field keeps the rules that its name keeps
--   whole_fits, stem_fits   a name field fits what its name fits
--   whole_short, stem_short, volume_short   a name that keeps its rule has at most eleven characters
use Rattle.std.proofs.Common.{◌≡◌, ℕ, ◌-◌, ◌≤◌, Bool, true, false, cond, not, ◌&&◌, ◌||◌, eqb, List, [], ◌∷◌, ◌++◌, length, replicate, codes, refl, ap, ◌∙◌, lit≤, le_trans, nat_le}
use Rattle.std.proofs.lemmas.Bool.{and_parts, leb-true}
use Rattle.std.specs.Str.{bytes_eq}
use Rattle.names.specs.Names.{before_last, characters, fits_stem, fits_whole, is_stem, is_volume, is_whole, last_is_letter, name_field, spelled}

-- characters with an ETX behind them read as themselves
read-on : (b : ℕ) (t : Bool) (rest more : List ℕ) → eqb b 3 ≡ t → characters (rest ++ (3 ∷ more)) ≡ rest
    → characters (cond t [] (b ∷ rest) ++ (3 ∷ more)) ≡ cond t [] (b ∷ rest)
read-on b true rest more e ih = refl
read-on b false rest more e ih = ap (λ t. cond t [] (b ∷ characters (rest ++ (3 ∷ more)))) e ∙ ap (λ l. b ∷ l) ih

read_back : (given more : List ℕ) → characters (characters given ++ (3 ∷ more)) ≡ characters given
read_back [] more = refl
read_back (b ∷ rest) more = read-on b (eqb b 3) (characters rest) more refl (read_back rest more)

pub characters-field : (given : List ℕ) → characters (name_field given) ≡ characters given
characters-field given = read_back given (replicate (11 - length (characters given)) 0)

pub field-field : (given : List ℕ) → name_field (name_field given) ≡ name_field given
field-field given = ap (λ cs. cs ++ (3 ∷ replicate (11 - length cs) 0)) (characters-field given)

pub whole_field : (given : List ℕ) → is_whole (name_field given) ≡ is_whole given
whole_field given = ap (λ cs. spelled 2 11 cs && (last_is_letter cs && not (bytes_eq cs (codes "BOOT") || (bytes_eq cs (codes "DIRECTORY") || bytes_eq cs (codes "BLOCKS LEFT"))))) (characters-field given)

pub stem_field : (given : List ℕ) → is_stem (name_field given) ≡ is_stem given
stem_field given = ap (spelled 1 10) (characters-field given)

pub volume_field : (given : List ℕ) → is_volume (name_field given) ≡ is_volume given
volume_field given = ap (spelled 1 11) (characters-field given)

-- so many characters, and no more
at_most : (low high : ℕ) (cs : List ℕ) → high ≤ 11 → spelled low high cs ≡ true → length cs ≤ 11
at_most low high cs few h =
    le_trans (leb-true (length cs) high (and_parts (nat_le (length cs) high) _ (and_parts (nat_le low (length cs)) _ h).1).0) few

pub whole_short : (given : List ℕ) → is_whole given ≡ true → length (characters given) ≤ 11
whole_short given h = at_most 2 11 (characters given) (lit≤ tt) (and_parts (spelled 2 11 (characters given)) _ h).0

pub stem_short : (given : List ℕ) → is_stem given ≡ true → length (characters given) ≤ 11
stem_short given h = at_most 1 10 (characters given) (lit≤ tt) h

pub volume_short : (given : List ℕ) → is_volume given ≡ true → length (characters given) ≤ 11
volume_short given h = at_most 1 11 (characters given) (lit≤ tt) h

pub whole_fits : (name field : List ℕ) → fits_whole (name_field name) field ≡ fits_whole name field
whole_fits name field = ap (λ cs. bytes_eq cs (characters field)) (characters-field name)

pub stem_fits : (stem field : List ℕ) → fits_stem (name_field stem) field ≡ fits_stem stem field
stem_fits stem field = ap (λ cs. bytes_eq cs (characters (before_last (characters field)))) (characters-field stem)
