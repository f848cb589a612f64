-- How the name field is filled. Assumes nothing.
use Rattle.std.proofs.Common.{◌≡◌, ℕ, suc, ◌-◌, ◌≤◌, List, ◌∷◌, ◌++◌, length, drop, set, replicate, sym, ap, ◌∙◌, arith}
use Rattle.std.proofs.lemmas.List.{drop-replicate, set_at}
use Rattle.names.specs.Names.{characters, name_field}
pub use Rattle.names.specs.Kept.{characters-field, field-field}

zeros-from : (n : ℕ) → n ≤ 11 → drop {A = ℕ} n (replicate 12 0) ≡ 0 ∷ replicate (11 - n) 0
zeros-from n h =
    let more : 12 - n ≡ suc (11 - n) = omega arith in
    drop-replicate {X = ℕ} n 12 0 ∙ ap (λ m. replicate {A = ℕ} m 0) more

-- the characters copied to the front of twelve zeros, and an ETX behind them
pub filled : (given cs : List ℕ) (n : ℕ) → cs ≡ characters given → n ≡ length cs → length (characters given) ≤ 11
    → set (cs ++ drop n (replicate 12 0)) n 3 ≡ name_field given
filled given cs n e l h =
    let few : n ≤ 11 = omega (arith, ap length e) in
    ap (λ z. set (cs ++ z) n 3) (zeros-from n few) ∙ set_at cs 0 (replicate (11 - n) 0) 3 n (sym l)
    ∙ ap (λ m. cs ++ (3 ∷ replicate (11 - m) 0)) l
    ∙ ap (λ c. c ++ (3 ∷ replicate (11 - length c) 0)) e
