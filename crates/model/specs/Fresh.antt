-- A pack as it is made by initialise. Assumes nothing.
--   dated                        the three bytes of a date, or three zeros
--   begun                        the 26 bytes of an entry of which only name, attributes and date are known
--   entry_bytes                  the 26 bytes of an entry, from its fields
--   volume_entry .. left_entry   the four entries of a fresh pack
--   fresh_pack                   the pack
--   fresh_known                  what a unit knows of it
--   first_block                  block 1, as it is written
--   initialised                  the device after a granted initialise
use Rattle.std.specs.Prelude.{ℕ, zero, suc, ◌+◌, ◌-◌, List, [], ◌∷◌, ◌++◌, replicate, Some, None, codes, Option, slice_set}
use Rattle.blocks.specs.Devices.{Device}
use Rattle.names.specs.Names.{name_field}
use Rattle.entry.specs.Fields.{check_bytes, long_bytes, word_bytes}
use Rattle.entry.specs.declared.stamp.Stamp.{Stamp}
use Rattle.directory.specs.declared.judgement.Pack.{Pack}
use Rattle.model.specs.Models.{PackModel}

abbrev pub dated : Option Stamp → List ℕ
dated None = 0 ∷ 0 ∷ 0 ∷ []
dated (Some day) = (day.year - 1900) ∷ day.month ∷ day.day ∷ []

-- A name field, attributes and a date, all else zeros.
abbrev pub begun : List ℕ → ℕ → Option Stamp → List ℕ
begun field attributes date = field ++ (attributes ∷ (replicate 10 0 ++ dated date))

-- Name, attributes, first block, room, used, last, date.
abbrev pub entry_bytes : List ℕ → ℕ → ℕ → ℕ → ℕ → ℕ → Option Stamp → List ℕ
entry_bytes name attributes first room used last date =
    name_field name ++ (attributes ∷ (long_bytes first ++ (word_bytes room ++ (word_bytes used ++ (word_bytes last ++ dated date)))))

-- The volume's entry has the check bytes where a file has its first block, and the size where it has room and used.
abbrev pub volume_entry : List ℕ → ℕ → ℕ → Option Stamp → List ℕ
volume_entry name directory blocks date =
    name_field name ++ ((128 + directory) ∷ (check_bytes ++ (long_bytes blocks ++ (0 ∷ 0 ∷ dated date))))

abbrev pub boot_entry : Option Stamp → List ℕ
boot_entry date = entry_bytes (codes "BOOT") 0x88 0 1 1 1024 date

abbrev pub directory_entry : ℕ → Option Stamp → List ℕ
directory_entry directory date = entry_bytes (codes "DIRECTORY") 0xC8 1 directory directory 1024 date

-- All blocks behind the directory are left.
abbrev pub left_entry : ℕ → ℕ → Option Stamp → List ℕ
left_entry directory blocks date = entry_bytes (codes "BLOCKS LEFT") 0x01 (1 + directory) (blocks - (1 + directory)) 0 0 date

abbrev pub fresh_pack : List ℕ → ℕ → ℕ → Option Stamp → PackModel
fresh_pack name directory blocks date = record {
  blocks = blocks;
  directory = directory;
  volume = volume_entry name directory blocks date;
  boot = boot_entry date;
  table = directory_entry directory date;
  files = [];
  left = left_entry directory blocks date;
}

-- What a unit knows of a pack that was just made.
abbrev pub fresh_known : ℕ → ℕ → Pack
fresh_known directory blocks = record { blocks = blocks; directory = directory; left = 3; free = blocks - (1 + directory) }

-- The four entries, and zeros up to the end of the block.
abbrev pub first_block : List ℕ → ℕ → ℕ → Option Stamp → List ℕ
first_block name directory blocks date =
    volume_entry name directory blocks date ++ (boot_entry date ++ (directory_entry directory date ++ (left_entry directory blocks date ++ replicate 920 0)))

-- `count` blocks of zeros from b on.
abbrev pub zeroed : List (List ℕ) → ℕ → ℕ → List (List ℕ)
zeroed blocks b zero = blocks
zeroed blocks b (suc count) = zeroed (slice_set blocks b (replicate 1024 0)) (b + 1) count

-- Blocks 2 to d are zeros, block 1 is the first block; every other is as it was, and so are the marks and the tab.
abbrev pub initialised : Device → List ℕ → ℕ → ℕ → Option Stamp → Device
initialised d name directory blocks date = record {
  blocks = slice_set (zeroed d.blocks 2 (directory - 1)) 1 (first_block name directory blocks date);
  marks = d.marks;
  tab = d.tab;
}
