-- The directory of a device, read block by block. Assumes nothing.
--   read_block     a block's bytes, or the refusal of it
--   volume_holds   the volume's entry can be the first of a directory
--   Read           the bytes of the directory's blocks, one after the other, and how many blocks that is
--   loaded         the directory of a device, or why it cannot be had
--   Loads          how the code's answer stands to that
use Rattle.std.specs.Prelude.{◌≡◌, ℕ, zero, suc, ◌+◌, ◌-◌, Bool, cond, ◌&&◌, List, ◌++◌, length, Some, None, Ok, Err, vec_items, Option, Result, nat_le}
use Rattle.std.specs.List.{concat}
use Rattle.std.specs.Str.{bytes_eq}
use Rattle.refusal.specs.declared.Refusal.{Refusal}
use Rattle.refusal.specs.declared.Refusal.TheVariants.{BrokenLayout}
use Rattle.blocks.specs.Devices.{Device, block_at, read_fault, refusal_of, size_of}
use Rattle.blocks.specs.declared.faults.Fault.{Fault}
use Rattle.entry.specs.Fields.{check_bytes, check_of, directory_of, size_of as volume_size}
use Rattle.listing.specs.Walks.{entry_at}
use Rattle.listing.specs.declared.failure.Failure.{Failure}
use Rattle.listing.specs.declared.failure.Failure.TheVariants.{Memory, Refused}
use Rattle.listing.specs.declared.directory.Directory.{Directory}

-- One after the other; the first refusal ends it.
abbrev pub then : {X Y : Type 0} → Result X Refusal → (X → Result Y Refusal) → Result Y Refusal
then (Ok x) next = next x
then (Err refusal) next = Err refusal

abbrev pub unless : List ℕ → Option Fault → Result (List ℕ) Refusal
unless bytes None = Ok bytes
unless bytes (Some fault) = Err (refusal_of fault)

abbrev pub read_block : Device → ℕ → Result (List ℕ) Refusal
read_block d b = unless (block_at d b) (read_fault d b 1024)

-- The volume's entry has the check bytes, there is a directory block, and the volume has a block more than the
-- directory and no more than the device.
abbrev pub volume_holds : ℕ → List ℕ → Bool
volume_holds blocks bytes =
    bytes_eq (check_of bytes) check_bytes
    && (nat_le 1 (directory_of bytes) && (nat_le (directory_of bytes + 1) (volume_size bytes) && nat_le (volume_size bytes) blocks))

pub record Read : Type 0 where
  pub bytes : List ℕ
  pub blocks : ℕ

-- `count` blocks more, from b on, behind what was read.
abbrev pub more : Device → ℕ → ℕ → List ℕ → Result (List ℕ) Refusal
more d b zero bytes = Ok bytes
more d b (suc count) bytes = then (read_block d b) (λ block. more d (b + 1) count (bytes ++ block))

abbrev pub counted : ℕ → Result (List ℕ) Refusal → Result Read Refusal
counted blocks (Ok bytes) = Ok (record { bytes = bytes; blocks = blocks })
counted blocks (Err refusal) = Err refusal

-- The volume's entry is tested before the second directory block is read.
abbrev pub volume_loaded : Device → List ℕ → Result Read Refusal
volume_loaded d bytes =
    let blocks = directory_of (entry_at bytes 0) in
    cond (volume_holds (size_of d) (entry_at bytes 0)) (counted blocks (more d 2 (blocks - 1) bytes)) (Err (BrokenLayout 0))

-- A device of one block has no directory, and nothing of it is read.
abbrev pub loaded : Device → Result Read Refusal
loaded d = cond (nat_le 2 (size_of d)) (then (read_block d 1) (volume_loaded d)) (Err (BrokenLayout 0))

abbrev pub as_read : Directory → Read
as_read v = record { bytes = concat (vec_items v.blocks); blocks = length (vec_items v.blocks) }

abbrev pub Loads : Result Directory Failure → Result Read Refusal → Type 0
Loads (Ok v) defined = Ok (as_read v) ≡ defined
Loads (Err Memory) defined = Unit {0}
Loads (Err (Refused refusal)) defined = Err refusal ≡ defined

-- What was read after the last of some blocks.
abbrev pub Extends : Result (Unit {0}) Failure → List ℕ → Result (List ℕ) Refusal → Type 0
Extends (Ok done) after defined = Ok after ≡ defined
Extends (Err Memory) after defined = Unit {0}
Extends (Err (Refused refusal)) after defined = Err refusal ≡ defined
