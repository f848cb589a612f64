-- The layout of a pack. Assumes nothing.
--   directory_blocks, pack_blocks   the blocks of the directory and of the pack, as the volume's entry counts them
--   end_of         the block behind the room of an entry
--   HasEtx         an ETX stands in a name field
--   IsLength       used blocks and bytes in the last of them that some length has
--   IsBlocksLeft   an entry is the BLOCKS LEFT entry
--   Follows        a pack follows the layout
use Rattle.std.specs.Prelude.{◌≡◌, ℕ, ◌+◌, ◌-◌, ◌*◌, ◌<◌, ◌≤◌, true, false, List, slice_index}
use Rattle.blocks.specs.Devices.{Device, size_of}
use Rattle.entry.specs.Fields.{check_bytes, check_of, directory_of, first_of, last_of, name_of, room_of, size_of as volume_size, used_of}
use Rattle.entry.specs.Lengths.{split}
use Rattle.directory.specs.Entries.{entry_at}
use Rattle.directory.specs.Lookups.{is_blocks_left, is_deleted}

abbrev pub directory_blocks : Device → ℕ
directory_blocks d = directory_of (entry_at d 0)

abbrev pub pack_blocks : Device → ℕ
pack_blocks d = volume_size (entry_at d 0)

abbrev pub end_of : List ℕ → ℕ
end_of bytes = first_of bytes + room_of bytes

abbrev pub HasEtx : List ℕ → Type 0
HasEtx field = (i : ℕ) × (slice_index field i ≡ 3)

abbrev pub IsLength : ℕ → ℕ → Type 0
IsLength used last = (length : ℕ) × (split length ≡ (used, last))

-- The first entry from 3 on with bit 0, among the 39 of each directory block.
pub record IsBlocksLeft (d : Device) (e : ℕ) : Type 0 where
  pub from : 3 ≤ e
  pub within : e < 39 * directory_blocks d
  pub marked : is_blocks_left (entry_at d e) ≡ true
  pub first : (f : ℕ) → 3 ≤ f → f < e → is_blocks_left (entry_at d f) ≡ false

-- The volume's entry: a device of at least two blocks, the check bytes, a directory block or more, and so many blocks
-- in the pack that one is left beside the directory, and no more than the device has.
pub record VolumeFollows (d : Device) : Type 0 where
  pub blocks : 2 ≤ size_of d
  pub check : check_of (entry_at d 0) ≡ check_bytes
  pub some : 1 ≤ directory_blocks d
  pub least : directory_blocks d + 1 ≤ pack_blocks d
  pub most : pack_blocks d ≤ size_of d

-- An entry begins at a block and has so much room.
pub record Placed (first room : ℕ) (bytes : List ℕ) : Type 0 where
  pub begins : first_of bytes ≡ first
  pub has : room_of bytes ≡ room

-- A live file uses no more than its room, and is of some length.
pub record LiveFollows (bytes : List ℕ) : Type 0 where
  pub used : used_of bytes ≤ room_of bytes
  pub length : IsLength (used_of bytes) (last_of bytes)

-- A pack follows the layout: its volume's entry does; the boot block is block 0 and the directory begins behind it;
-- there is a BLOCKS LEFT entry, which ends where the pack ends; each entry from 3 to it begins where the one before
-- ends; each file, which is an entry from 3 up to it, has an ETX in its name; each live file is of some length within
-- its room. Nothing else is asked: not of other names, attributes and dates, not of the lengths of deleted files, and
-- not of what stands behind the BLOCKS LEFT entry.
pub record Follows (d : Device) : Type 0 where
  pub volume : VolumeFollows d
  pub boot : Placed 0 1 (entry_at d 1)
  pub directory : Placed 1 (directory_blocks d) (entry_at d 2)
  pub left : ℕ
  pub is_left : IsBlocksLeft d left
  pub ends : end_of (entry_at d left) ≡ pack_blocks d
  pub chain : (e : ℕ) → 3 ≤ e → e ≤ left → first_of (entry_at d e) ≡ end_of (entry_at d (e - 1))
  pub named : (e : ℕ) → 3 ≤ e → e < left → HasEtx (name_of (entry_at d e))
  pub live : (e : ℕ) → 3 ≤ e → e < left → is_deleted (entry_at d e) ≡ false → LiveFollows (entry_at d e)
