-- The interleave of a disk: the record that keeps each of its sectors. Assumes nothing.
--   record_of        the record of a sector, where a track has `sectors` sectors and the interleave goes by `step`
--   SharesNoFactor   no number but 1 divides both
--   Interleaves      no two sectors of a disk share a record, every record is some sector's, and none lies off the disk
--   track_count, sector_count, step_size   the disk's shape: its tracks, the sectors of a track, the step
use Rattle.std.specs.Prelude.{◌≡◌, ℕ, ◌+◌, ◌*◌, ◌/◌, ◌%◌, ◌<◌}
use Rattle.std.specs.Int.{◌∣◌}

-- Sector q of the disk is sector q mod `sectors` of track q ÷ `sectors`. It stays in its track.
abbrev pub record_of : ℕ → ℕ → ℕ → ℕ
record_of sectors step q = sectors * (q / sectors) + (step * (q % sectors)) % sectors

abbrev pub SharesNoFactor : ℕ → ℕ → Type 0
SharesNoFactor a b = (k : ℕ) → k ∣ a → k ∣ b → k ≡ 1

-- A disk of `tracks` tracks has as many records as sectors.
pub record Interleaves (tracks sectors step : ℕ) : Type 0 where
  pub apart : (p q : ℕ) → p < tracks * sectors → q < tracks * sectors → record_of sectors step p ≡ record_of sectors step q → p ≡ q
  pub covers : (k : ℕ) → k < tracks * sectors → (q : ℕ) × (q < tracks * sectors) × (record_of sectors step q ≡ k)
  pub within : (q : ℕ) → q < tracks * sectors → record_of sectors step q < tracks * sectors

abbrev pub track_count : ℕ
track_count = 40

abbrev pub sector_count : ℕ
sector_count = 8

abbrev pub step_size : ℕ
step_size = 5
