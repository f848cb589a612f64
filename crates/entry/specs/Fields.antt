-- The fields of an entry's 26 bytes. Assumes nothing.
--   entry_in       an entry of a directory block
--   put_in         the block with other bytes in the place of an entry
--   word, long     the number in two or in four bytes, the low byte first; word_bytes and long_bytes write it
--   bit            a bit of a byte, 0 the lowest
--   name_of .. date_of, check_of, size_of, directory_of   the fields of an entry, by position
use Rattle.std.specs.Prelude.{ℕ, ◌+◌, ◌*◌, ◌/◌, ◌%◌, ◌^◌, Bool, List, [], ◌∷◌, ◌==◌, slice_index}
use Rattle.parts.specs.Parts.{part, stored}

-- The 26 bytes of the entry of a number in the directory block that holds it: 39 entries stand in a block.
abbrev pub entry_in : List ℕ → ℕ → List ℕ
entry_in block number = part (26 * (number % 39)) 26 block

abbrev pub put_in : List ℕ → ℕ → List ℕ → List ℕ
put_in block number bytes = stored block (26 * (number % 39)) bytes

abbrev pub word : List ℕ → ℕ → ℕ
word bytes at = slice_index bytes at + slice_index bytes (at + 1) * 256

abbrev pub long : List ℕ → ℕ → ℕ
long bytes at = word bytes at + slice_index bytes (at + 2) * 65536 + slice_index bytes (at + 3) * 16777216

abbrev pub word_bytes : ℕ → List ℕ
word_bytes n = (n % 256) ∷ (n / 256 % 256) ∷ []

abbrev pub long_bytes : ℕ → List ℕ
long_bytes n = (n % 256) ∷ (n / 256 % 256) ∷ (n / 65536 % 256) ∷ (n / 16777216 % 256) ∷ []

abbrev pub bit : ℕ → ℕ → Bool
bit k byte = byte / 2 ^ k % 2 == 1

-- The name field: the name, ETX, and what stands behind it.
abbrev pub name_of : List ℕ → List ℕ
name_of bytes = part 0 12 bytes

-- Bit 7 locked, 6 write protected, 5 read protected, 4 a user's file, 3 a system file, 2 deleted,
-- 1 execute protected, 0 the BLOCKS LEFT entry. In the volume's entry bits 0 to 6 count the directory blocks.
abbrev pub attributes_of : List ℕ → ℕ
attributes_of bytes = slice_index bytes 12

-- The first block of a file.
abbrev pub first_of : List ℕ → ℕ
first_of bytes = long bytes 13

-- The blocks that are a file's, whether used or not.
abbrev pub room_of : List ℕ → ℕ
room_of bytes = word bytes 17

-- The blocks that hold a file's bytes.
abbrev pub used_of : List ℕ → ℕ
used_of bytes = word bytes 19

-- The bytes in the last of the used blocks.
abbrev pub last_of : List ℕ → ℕ
last_of bytes = word bytes 21

-- Year less 1900, month and day; three zeros where there is no date.
abbrev pub date_of : List ℕ → List ℕ
date_of bytes = part 23 3 bytes

-- In the volume's entry: the bytes by which a directory is known.
abbrev pub check_of : List ℕ → List ℕ
check_of bytes = part 13 4 bytes

abbrev pub check_bytes : List ℕ
check_bytes = 0x55 ∷ 0xAA ∷ 0x00 ∷ 0xFF ∷ []

-- In the volume's entry: the blocks of the volume.
abbrev pub size_of : List ℕ → ℕ
size_of bytes = long bytes 17

-- In the volume's entry: the blocks of the directory.
abbrev pub directory_of : List ℕ → ℕ
directory_of bytes = attributes_of bytes % 128
