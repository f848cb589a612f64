-- Numbers that share no factor: by Euclid's algorithm the one has an inverse modulo the other. Assumes nothing.
use Rattle.std.specs.Prelude.{◌≡◌, ℕ, zero, suc, ◌+◌, ◌*◌, ◌/◌, ◌%◌, ◌<◌}
use Rattle.std.proofs.Common.{sym, ap, ◌∙◌, add-mul, mod-lt, mul-add, mul_assoc, mul_left_comm, suc-mul, arith}
use Rattle.std.proofs.Math.Nat.{add-mod_right, div-add-mod, dvd-mod_iff, dvd_refl, dvd-zero, mul-add-mod_self_left}
use Rattle.sectors.specs.Interleave.{SharesNoFactor}

-- an inverse u of a modulo m: a * u and 1 differ by a multiple of m
abbrev Inverse : ℕ → ℕ → Type 0
Inverse a m = (u : ℕ) × (v : ℕ) × (a * u + m ≡ m * v + 1)

-- a step of the algorithm brings in no shared factor
shares-none : (a m : ℕ) → SharesNoFactor a m → SharesNoFactor (m % a) a
shares-none a m none k left right = none k right ((dvd-mod_iff k right).0 left)

-- the algorithm ends at 0, and m is 1 there
inverse-none : (m : ℕ) → SharesNoFactor 0 m → Inverse 0 m
inverse-none m none =
    let one : m ≡ 1 = none m (dvd-zero m) (dvd_refl m) in
    (0, 0, omega arith)

-- an inverse of m % a modulo a gives one of a modulo m
from-rest : (a m u v : ℕ) → m % a * u + a ≡ a * v + 1 → a * (m / a * u + v) + 1 ≡ m * u + a
from-rest a m u v e =
    omega (arith, mul-add a (m / a * u) v, mul_assoc a (m / a) u, add-mul (a * (m / a)) (m % a) u, ap (λ x. x * u) (div-add-mod m a))

turned : (a n s u : ℕ) → a * s + 1 ≡ suc n * u + a → a * (1 + n * s) + suc n ≡ suc n * (a + n * u) + 1
turned a n s u e =
    omega (arith, ap (λ x. n * x) e, mul-add n (a * s) 1, mul-add n (suc n * u) a, mul-add a 1 (n * s), mul-add (suc n) a (n * u), suc-mul n a, mul_left_comm a n s, mul_left_comm n (suc n) u)

inverse-more : (a n : ℕ) → Inverse (suc n % a) a → Inverse a (suc n)
inverse-more a n (u, v, e) =
    let s = suc n / a * u + v in
    (1 + n * s, a + n * u, turned a n s u (from-rest a (suc n) u v e))

inverse-by : (fuel a n : ℕ) → a < fuel → SharesNoFactor a (suc n) → Inverse a (suc n)
inverse-by zero a n h none = absurd (omega arith)
inverse-by (suc fuel) zero n h none = inverse-none (suc n) none
inverse-by (suc fuel) (suc a) n h none =
    let less : suc n % suc a < suc a = mod-lt (suc n) (omega arith) in
    inverse-more (suc a) n (inverse-by fuel (suc n % suc a) a (omega arith) (shares-none (suc a) (suc n) none))

pub inverse : (a m : ℕ) → 0 < m → SharesNoFactor a m → (u : ℕ) × ((a * u) % m ≡ 1 % m)
inverse a zero pos none = absurd (omega arith)
inverse a (suc n) pos none =
    let (u, v, e) = inverse-by (suc a) a n (omega arith) none in
    (u, sym (add-mod_right (a * u) (suc n)) ∙ ap (λ x. x % suc n) e ∙ mul-add-mod_self_left (suc n) v 1)
