-- The last character of a name. Assumes nothing.
use Rattle.std.proofs.Common.{◌≡◌, ℕ, suc, ◌-◌, ◌≤◌, List, [], ◌∷◌, length, get_or, refl, ◌∙◌, ap, arith}
use Rattle.names.specs.Names.{is_letter, last_is_letter}

-- whether a name that has a last character ends in a letter is told by that one
pub last-letter : (xs : List ℕ) → 1 ≤ length xs → last_is_letter xs ≡ is_letter (get_or xs (length xs - 1) 0)
last-letter [] h = absurd (omega arith)
last-letter (b ∷ []) h = refl
last-letter (b ∷ (c ∷ rest)) h =
    let e : suc (length (c ∷ rest) - 1) ≡ length (b ∷ (c ∷ rest)) - 1 = omega arith in
    last-letter (c ∷ rest) (omega arith) ∙ ap (λ k. is_letter (get_or (b ∷ (c ∷ rest)) k 0)) e
