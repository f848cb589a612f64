-- Where the characters of a name end. Assumes nothing.
use Rattle.std.proofs.Common.{◌≡◌, ℕ, suc, ◌+◌, ◌≤◌, Bool, true, false, cond, not, List, [], ◌∷◌, length, take, Some, None, Option, ◌==◌, refl, ap, ◌∙◌, arith, nat_lt}
use Rattle.std.specs.List.{position_or_len}
use Rattle.std.specs.Option.{unwrap_or}
use Rattle.std.proofs.lemmas.List.Sums.{prefix_len-le-length}
use Rattle.std.proofs.lemmas.Bool.Decides.{nat_tests}
use Rattle.names.specs.Names.{characters}

-- the place of the first ETX, or the length
abbrev pub end_of : List ℕ → ℕ
end_of xs = position_or_len (λ b. b == 3) xs

step : (b : ℕ) (rest : List ℕ) (t : Bool) → characters rest ≡ take (end_of rest) rest
    → cond t [] (b ∷ characters rest) ≡ take (cond (not t) (1 + end_of rest) 0) (b ∷ rest)
step b rest true ih = refl
step b rest false ih =
    let e : suc (end_of rest) ≡ 1 + end_of rest = omega arith in
    ap (λ l. b ∷ l) ih ∙ ap (λ n. take n (b ∷ rest)) e

pub up_to_end : (xs : List ℕ) → characters xs ≡ take (end_of xs) xs
up_to_end [] = refl
up_to_end (b ∷ rest) = step b rest (b == 3) (up_to_end rest)

-- what a search for the first ETX finds, or else the length
pub found : (xs : List ℕ) (at : Option ℕ) → at ≡ cond (nat_lt (end_of xs) (length xs)) (Some (end_of xs)) None → unwrap_or at (length xs) ≡ end_of xs
found xs at e = rw e (pick (end_of xs) (length xs) (prefix_len-le-length _ xs))
  where
    pick : (n m : ℕ) → n ≤ m → unwrap_or (cond (nat_lt n m) (Some n) None) m ≡ n
    pick n m h = grind (arith, nat_tests)
