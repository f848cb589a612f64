-- A sector disk as the code has it. Assumes nothing.
--   device_of     the device that a disk is
--   statuses_of   the status bytes of its records
use Rattle.std.specs.Prelude.{ℕ, List, vec_items}
use Rattle.blocks.specs.Devices.{Device}
use Rattle.sectors.specs.Disks.{disk_of, statuses}
use Rattle.sectors.specs.declared.disk.SectorDisk.{SectorDisk}

abbrev pub device_of : SectorDisk → Device
device_of disk = disk_of (vec_items disk.bytes) disk.protected

abbrev pub statuses_of : SectorDisk → List ℕ
statuses_of disk = statuses (vec_items disk.bytes)
