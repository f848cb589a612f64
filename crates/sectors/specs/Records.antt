-- An interleave is undone by one whose step is an inverse of its step, so it is one to one. Assumes nothing.
use Rattle.std.specs.Prelude.{◌≡◌, ℕ, ◌+◌, ◌*◌, ◌/◌, ◌%◌, ◌<◌}
use Rattle.std.proofs.Common.{sym, ap, ap₂, ◌∙◌, div-lt_iff_lt-mul, mod-eq_of_lt, mod-lt, mul-add, mul_assoc, mul_comm, mul-le-mul_left, mul_left_comm, mul-one, arith, lit<}
use Rattle.std.proofs.Math.Nat.{div-add-mod, div-eq_of_lt, dvd-mul_left_of_dvd, dvd-sub, eq-one_of_dvd-one, mul-add-div, mul-add-mod_self_left}
use Rattle.sectors.specs.Interleave.{Interleaves, SharesNoFactor, record_of, sector_count, step_size, track_count}
use Rattle.sectors.specs.Inverse.{inverse}

mul-split : (a b m : ℕ) → a * b ≡ m * (a * (b / m)) + a * (b % m)
mul-split a b m =
    omega (arith, ap (λ x. a * x) (div-add-mod b m), mul-add a (m * (b / m)) (b % m), mul_left_comm a m (b / m))

-- a factor may be reduced before the product is
mul-mod-mod : (a b m : ℕ) → (a * (b % m)) % m ≡ (a * b) % m
mul-mod-mod a b m = sym (ap (λ x. x % m) (mul-split a b m) ∙ mul-add-mod_self_left m (a * (b / m)) (a * (b % m)))

-- a sector of a track comes back to its place
place-back : (a b m r : ℕ) → (a * b) % m ≡ 1 % m → r < m → (a * ((b * r) % m)) % m ≡ r
place-back a b m r one h =
    mul-mod-mod a (b * r) m
    ∙ ap (λ x. x % m) (sym (mul_assoc a b r) ∙ mul_comm (a * b) r)
    ∙ sym (mul-mod-mod r (a * b) m)
    ∙ ap (λ x. (r * x) % m) one
    ∙ mul-mod-mod r 1 m
    ∙ ap (λ x. x % m) (mul-one r)
    ∙ mod-eq_of_lt h

module _ (sectors : ℕ) (pos : 0 < sectors) where
  -- the track of a record, and its place in the track
  track-of : (t r : ℕ) → r < sectors → (sectors * t + r) / sectors ≡ t
  track-of t r h = omega (arith, mul-add-div pos t r, div-eq_of_lt h)

  place_of : (t r : ℕ) → r < sectors → (sectors * t + r) % sectors ≡ r
  place_of t r h = mul-add-mod_self_left sectors t r ∙ mod-eq_of_lt h

  -- a sector's record has that sector as its record, by the other step
  pub undone : (a b q : ℕ) → (a * b) % sectors ≡ 1 % sectors → record_of sectors a (record_of sectors b q) ≡ q
  undone a b q one =
      let t = q / sectors in
      let r = (b * (q % sectors)) % sectors in
      let h : r < sectors = mod-lt (b * (q % sectors)) pos in
      ap₂ (λ x y. sectors * x + (a * y) % sectors) (track-of t r h) (place_of t r h)
      ∙ ap (λ x. sectors * t + x) (place-back a b sectors (q % sectors) one (mod-lt q pos))
      ∙ div-add-mod q sectors

  -- a record is on the disk if its sector is
  pub inside : (tracks step q : ℕ) → q < tracks * sectors → record_of sectors step q < tracks * sectors
  inside tracks step q h =
      let track : q / sectors < tracks = (div-lt_iff_lt-mul pos).1 h in
      let place = mod-lt (step * (q % sectors)) pos in
      omega (arith, mul-le-mul_left sectors track, mul-add sectors (q / sectors) 1, mul_comm sectors tracks)

  inverted : (tracks step back : ℕ) → (step * back) % sectors ≡ 1 % sectors → Interleaves tracks sectors step
  inverted tracks step back one =
      let undo = λ (q : ℕ). undone back step q (ap (λ x. x % sectors) (mul_comm back step) ∙ one) in
      record {
        apart = λ p q _ _ e. sym (undo p) ∙ ap (record_of sectors back) e ∙ undo q;
        covers = λ k h. (record_of sectors back k, inside tracks back k h, undone step back k one);
        within = inside tracks step;
      }

pub interleaves : (tracks sectors step : ℕ) → 0 < sectors → SharesNoFactor step sectors → Interleaves tracks sectors step
interleaves tracks sectors step pos none =
    let (back, one) = inverse step sectors pos none in
    inverted sectors pos tracks step back one

-- what divides 5 and 8 divides 2 * 8 - 3 * 5
pub disk-shares-none : SharesNoFactor step_size sector_count
disk-shares-none k step sectors = eq-one_of_dvd-one (dvd-sub k (dvd-mul_left_of_dvd k sectors 2) (dvd-mul_left_of_dvd k step 3))

pub disk-interleaves : Interleaves track_count sector_count step_size
disk-interleaves = interleaves track_count sector_count step_size (lit< tt) disk-shares-none
