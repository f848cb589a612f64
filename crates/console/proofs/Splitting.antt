-- A line taken apart into its fields. Assumes nothing.
use Rattle.std.proofs.Common.{◌≡◌, ℕ, suc, ◌<◌, Bool, true, false, cond, List, [], ◌∷◌, length, take, drop, refl, ap, arith, ◌==◌}
use Rattle.std.proofs.lemmas.Bool.Decides.{nat_tests}
use Rattle.console.specs.Fields.{ends_field, field_length, fields, fields_from, later, lengthened, quoting}

split-byte : (ends : Bool) (b : ℕ) (rest : List ℕ) (n : ℕ) (whole : List (List ℕ)) → take n rest ∷ later (drop n rest) ≡ whole
    → take (cond ends 0 (suc n)) (b ∷ rest) ∷ later (drop (cond ends 0 (suc n)) (b ∷ rest)) ≡ cond ends ([] ∷ fields rest) (lengthened b whole)
split-byte true b rest n whole e = refl
split-byte false b rest n whole e = ap (lengthened b) e

-- a line is its first field and what stands behind it
pub split : (quoted : Bool) (line : List ℕ) → take (field_length quoted line) line ∷ later (drop (field_length quoted line) line) ≡ fields_from quoted line
split quoted [] = refl
split quoted (b ∷ rest) =
    split-byte (ends_field quoted b) b rest (field_length (quoting quoted b) rest) (fields_from (quoting quoted b) rest) (split (quoting quoted b) rest)

-- a line has a first field, be it an empty one
first_given : (quoted : Bool) (line : List ℕ) → 0 < length (fields_from quoted line)
first_given quoted line = let some = ap length (split quoted line) in omega arith

-- there is a next field unless nothing is left
pub none_later : (left : List ℕ) → (length (later left) == 0) ≡ (length left == 0)
none_later [] = refl
none_later (b ∷ line) = let some = first_given false line in grind (arith, nat_tests)
