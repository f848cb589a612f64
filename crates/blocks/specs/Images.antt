-- The meaning of an image: bytes handed in, as a device. Assumes nothing.
--   tabulated   the list of a function's values at 0, 1, ..
--   is_image    bytes are whole blocks, 1 to 65,535 of them
--   image_of    the device that they are, all blocks sound, with the tab at depth 0 if it is on
--   encoded     the bytes that a device's blocks are, one after the other
use Rattle.std.specs.Prelude.{ℕ, ◌*◌, ◌/◌, ◌%◌, Bool, cond, ◌&&◌, List, map, length, take, drop, ◌==◌, nat_le}
use Rattle.std.specs.List.{range_with_len, flat_map}
use Rattle.blocks.specs.Devices.{Device}
use Rattle.blocks.specs.declared.faults.Mark.{Mark}
use Rattle.blocks.specs.declared.faults.Mark.TheVariants.{Sound}
use Rattle.blocks.specs.declared.faults.Tab.{Tab}
use Rattle.blocks.specs.declared.faults.Tab.TheVariants.{Off, On}

unfoldable pub tabulated : {X : Type 0} → ℕ → (ℕ → X) → List X
tabulated n f = map f (range_with_len 0 n)

-- The device with n blocks whose bytes and marks two functions of the block's number give.
abbrev pub numbered : ℕ → (ℕ → List ℕ) → (ℕ → Mark) → Tab → Device
numbered n block mark tab = record { blocks = tabulated n block; marks = tabulated n mark; tab = tab }

abbrev pub tab_of : Bool → Tab
tab_of protected = cond protected (On 0) Off

abbrev pub is_image : List ℕ → Bool
is_image bytes = length bytes % 1024 == 0 && (nat_le 1 (length bytes / 1024) && nat_le (length bytes / 1024) 65535)

abbrev pub image_block : List ℕ → ℕ → List ℕ
image_block bytes b = take 1024 (drop (1024 * b) bytes)

abbrev pub image_of : List ℕ → Bool → Device
image_of bytes protected = numbered (length bytes / 1024) (image_block bytes) (λ _. Sound) (tab_of protected)

abbrev pub encoded : Device → List ℕ
encoded d = flat_map (λ block. block) d.blocks
