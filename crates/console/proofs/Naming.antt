-- Names read byte by byte. Assumes nothing.
use Rattle.std.proofs.Common.{◌≡◌, ℕ, zero, suc, ◌+◌, ◌*◌, ◌/◌, ◌<◌, ◌≤◌, List, [], ◌∷◌, length, get_or, map, refl, ap, arith}
use Rattle.std.specs.Simd.{first_chunks}
use Rattle.console.specs.Titles.{hex_bytes, pair_value}

-- the byte of a pair of digits
abbrev pub of_pair : List ℕ → ℕ
of_pair pair = pair_value (get_or pair 0 0) (get_or pair 1 0)

pairs_by : (k : ℕ) (digits : List ℕ) → k * 2 ≤ length digits → length digits < k * 2 + 2 → map of_pair (first_chunks 2 k digits) ≡ hex_bytes digits
pairs_by zero [] h l = refl
pairs_by zero (odd ∷ []) h l = refl
pairs_by zero (high ∷ (low ∷ rest)) h l = absurd (omega arith)
pairs_by (suc k) [] h l = absurd (omega arith)
pairs_by (suc k) (odd ∷ []) h l = absurd (omega arith)
pairs_by (suc k) (high ∷ (low ∷ rest)) h l = ap (λ more. pair_value high low ∷ more) (pairs_by k rest (omega arith) (omega arith))

-- the bytes of all pairs
pub of_pairs : (digits : List ℕ) → map of_pair (first_chunks 2 (length digits / 2) digits) ≡ hex_bytes digits
of_pairs digits = pairs_by (length digits / 2) digits (omega arith) (omega arith)
