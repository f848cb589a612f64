-- What a block device means, and what asking it replies and leaves. Assumes nothing.
--   Device                    the bytes and the mark of each block, and the write-protect tab
--   size_of                   how many blocks it has
--   block_at, mark_at         the bytes and the mark of a block
--   range_fault               why a block and a buffer's length are refused for their range, if they are
--   read_fault, write_fault   why reading or writing a block is refused, if it is
--   refusal_of                the refusal that a fault is to a caller of the unit
--   outcome                   the reply to that
--   read_out, written         the buffer after a read, the device after a write
use Rattle.std.specs.Prelude.{ℕ, ◌≤◌, Bool, cond, ◌&&◌, List, [], length, Some, None, Ok, Err, Option, Result, ◌==◌, nat_lt, slice_index_or, slice_set}
use Rattle.refusal.specs.declared.Refusal.{Refusal}
use Rattle.refusal.specs.declared.Refusal.TheVariants.{OutOfRange as Refused17, WriteProtected as Refused32, BadBlock as Refused22}
use Rattle.blocks.specs.declared.faults.Fault.{Fault}
use Rattle.blocks.specs.declared.faults.Fault.TheVariants.{OutOfRange, WriteProtected, BadBlock}
use Rattle.blocks.specs.declared.faults.Mark.{Mark}
use Rattle.blocks.specs.declared.faults.Mark.TheVariants.{Sound, Bad}
use Rattle.blocks.specs.declared.faults.Tab.{Tab}
use Rattle.blocks.specs.declared.faults.Tab.TheVariants.{Off, On}

-- The bytes of each block, a mark for each block, and the write-protect tab.
pub record Device : Type 0 where
  pub blocks : List (List ℕ)
  pub marks : List Mark
  pub tab : Tab

abbrev pub size_of : Device → ℕ
size_of d = length d.blocks

abbrev pub block_at : Device → ℕ → List ℕ
block_at d b = slice_index_or d.blocks b []

abbrev pub mark_at : Device → ℕ → Mark
mark_at d b = slice_index_or d.marks b Sound

-- The number, the depth and the place of a fault.
pub record Listed : Type 0 where
  pub number : ℕ
  pub depth : ℕ
  pub place : ℕ

abbrev pub listed : Fault → Listed
listed (OutOfRange place) = record { number = 17; depth = 0; place = place }
listed (WriteProtected depth) = record { number = 32; depth = depth; place = 0 }
listed (BadBlock depth place) = record { number = 22; depth = depth; place = place }

-- The refusal that a fault is to a caller of the unit.
abbrev pub refusal_of : Fault → Refusal
refusal_of (OutOfRange place) = Refused17
refusal_of (WriteProtected depth) = Refused32 depth
refusal_of (BadBlock depth place) = Refused22 depth place

-- A block below the size, and a buffer of 1,024 bytes.
abbrev pub in_range : Device → ℕ → ℕ → Bool
in_range d b len = nat_lt b (size_of d) && len == 1024

-- The same test at the size alone.
abbrev pub range_fault : ℕ → ℕ → ℕ → Option Fault
range_fault b size len = cond (nat_lt b size && len == 1024) None (Some (OutOfRange b))

abbrev pub mark_fault : Mark → Option Fault
mark_fault Sound = None
mark_fault (Bad depth place) = Some (BadBlock depth place)

abbrev pub read_fault : Device → ℕ → ℕ → Option Fault
read_fault d b len = cond (in_range d b len) (mark_fault (mark_at d b)) (Some (OutOfRange b))

-- The tab is told before the block's mark.
abbrev pub tab_fault : Tab → Option Fault → Option Fault
tab_fault Off other = other
tab_fault (On depth) other = Some (WriteProtected depth)

abbrev pub write_fault : Device → ℕ → ℕ → Option Fault
write_fault d b len = cond (in_range d b len) (tab_fault d.tab (mark_fault (mark_at d b))) (Some (OutOfRange b))

abbrev pub outcome : Option Fault → Result (Unit {0}) Fault
outcome None = Ok tt
outcome (Some fault) = Err fault

-- The buffer after a read: the block, or as it was where the read is refused.
abbrev pub read_out : Option Fault → List ℕ → List ℕ → List ℕ
read_out None block buffer = block
read_out (Some fault) block buffer = buffer

-- The device after a write: that block's bytes alone are new, or nothing is where the write is refused.
abbrev pub written : Option Fault → Device → ℕ → List ℕ → Device
written None d b bytes = record { blocks = slice_set d.blocks b bytes; marks = d.marks; tab = d.tab }
written (Some fault) d b bytes = d

-- A depth is at most 15, and a mark's place at most 65,535.
abbrev pub ShallowMark : Mark → Type 0
ShallowMark Sound = Unit {0}
ShallowMark (Bad depth place) = (depth ≤ 15) × (place ≤ 65535)

abbrev pub ShallowTab : Tab → Type 0
ShallowTab Off = Unit {0}
ShallowTab (On depth) = depth ≤ 15
