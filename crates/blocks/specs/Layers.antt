-- The meaning of a layer over a device. Assumes nothing.
--   deeper, deeper_mark, deeper_tab, deeper_fault   what a layer passes up: one deeper, never above 15, the place kept
--   passed_up   a reply as a layer passes it up
--   windowed    some blocks of a device, as a device
--   protected   a device whose tab is on
use Rattle.std.specs.Prelude.{ℕ, ◌+◌, ◌-◌, min, map, take, drop, Ok, Err, Result}
use Rattle.blocks.specs.Devices.{Device, size_of}
use Rattle.blocks.specs.declared.faults.Fault.{Fault}
use Rattle.blocks.specs.declared.faults.Fault.TheVariants.{OutOfRange, WriteProtected, BadBlock}
use Rattle.blocks.specs.declared.faults.Mark.{Mark}
use Rattle.blocks.specs.declared.faults.Mark.TheVariants.{Sound, Bad}
use Rattle.blocks.specs.declared.faults.Tab.{Tab}
use Rattle.blocks.specs.declared.faults.Tab.TheVariants.{Off, On}

abbrev pub deeper : ℕ → ℕ
deeper depth = min 15 (depth + 1)

abbrev pub deeper_mark : Mark → Mark
deeper_mark Sound = Sound
deeper_mark (Bad depth place) = Bad (deeper depth) place

abbrev pub deeper_tab : Tab → Tab
deeper_tab Off = Off
deeper_tab (On depth) = On (deeper depth)

-- A layer tests the range itself, so that no fault of range comes from below.
abbrev pub deeper_fault : Fault → Fault
deeper_fault (OutOfRange place) = OutOfRange place
deeper_fault (WriteProtected depth) = WriteProtected (deeper depth)
deeper_fault (BadBlock depth place) = BadBlock (deeper depth) place

-- `count` blocks of a device from block `first` on. The tab is that of the device below, one deeper.
abbrev pub cut_out : ℕ → ℕ → Device → Device
cut_out first count d = record
    { blocks = take count (drop first d.blocks); marks = map deeper_mark (take count (drop first d.marks)); tab = deeper_tab d.tab }

-- A window is made only where it lies within the device below. So that every value of the type is a device with a
-- block, one that began behind the last block would begin at it.
abbrev pub windowed : ℕ → ℕ → Device → Device
windowed first count d = cut_out (min first (size_of d - 1)) count d

-- The same blocks, with the tab on.
abbrev pub protected : Device → Device
protected d = record { blocks = d.blocks; marks = map deeper_mark d.marks; tab = On 0 }

abbrev pub passed_up : Result (Unit {0}) Fault → Result (Unit {0}) Fault
passed_up (Ok done) = Ok done
passed_up (Err fault) = Err (deeper_fault fault)
