-- The meaning of a sector disk: records handed in, as a device. Assumes nothing.
--   record_count, block_count   the records and the blocks of a disk; a block is two sectors
--   sector_bytes, status_at     the 512 bytes of a sector and its status byte, 0 if it is good
--   disk_of                     the device that the records are
--   sector_in                   the sector that a record keeps
--   encoded_disk                the records that a device's blocks are, with given status bytes
use Rattle.std.specs.Prelude.{ℕ, ◌+◌, ◌*◌, ◌/◌, ◌%◌, Bool, cond, ◌&&◌, List, [], ◌∷◌, ◌++◌, length, take, drop, ◌==◌, slice_index}
use Rattle.std.specs.List.{flat_map}
use Rattle.blocks.specs.Devices.{Device, block_at}
use Rattle.blocks.specs.Images.{numbered, tab_of, tabulated}
use Rattle.blocks.specs.declared.faults.Mark.{Mark}
use Rattle.blocks.specs.declared.faults.Mark.TheVariants.{Sound, Bad}
use Rattle.sectors.specs.Interleave.{record_of, sector_count, step_size, track_count}

abbrev pub record_count : ℕ
record_count = track_count * sector_count

abbrev pub block_count : ℕ
block_count = record_count / 2

-- A record is 512 bytes of data and a status byte.
abbrev pub is_disk : List ℕ → Bool
is_disk bytes = length bytes == 513 * record_count

-- Where the record of a sector begins.
abbrev pub start_of : ℕ → ℕ
start_of q = 513 * record_of sector_count step_size q

abbrev pub sector_bytes : List ℕ → ℕ → List ℕ
sector_bytes bytes q = take 512 (drop (start_of q) bytes)

abbrev pub status_at : List ℕ → ℕ → ℕ
status_at bytes q = slice_index bytes (start_of q + 512)

-- Block b is sectors 2b and 2b + 1.
abbrev pub disk_block : List ℕ → ℕ → List ℕ
disk_block bytes b = sector_bytes bytes (2 * b) ++ sector_bytes bytes (2 * b + 1)

-- A block is good if both its sectors are.
abbrev pub is_good : List ℕ → ℕ → Bool
is_good bytes b = status_at bytes (2 * b) == 0 && status_at bytes (2 * b + 1) == 0

abbrev pub disk_mark : List ℕ → ℕ → Mark
disk_mark bytes b = cond (is_good bytes b) Sound (Bad 0 b)

abbrev pub disk_of : List ℕ → Bool → Device
disk_of bytes protected = numbered block_count (disk_block bytes) (disk_mark bytes) (tab_of protected)

-- The status bytes, record by record.
abbrev pub statuses : List ℕ → List ℕ
statuses bytes = tabulated record_count (λ k. slice_index bytes (513 * k + 512))

-- The step that leads back: a step and this one after it lead to the same place of the track.
abbrev pub step_back : ℕ
step_back = 5

abbrev pub sector_in : ℕ → ℕ
sector_in k = record_of sector_count step_back k

abbrev pub sector_of : Device → ℕ → List ℕ
sector_of d q = take 512 (drop (512 * (q % 2)) (block_at d (q / 2)))

abbrev pub encoded_disk : Device → List ℕ → List ℕ
encoded_disk d status = flat_map (λ bytes. bytes) (tabulated record_count (λ k. sector_of d (sector_in k) ++ (slice_index status k ∷ [])))
