use Rattle.std.proofs.Common.{vec_items, arith}
use Rattle.blocks.specs.Ranges.{passed-range}
use Rattle.sectors.specs.Disks.{disk_of}
use Rattle.sectors.specs.Sectoring.{block-and-length}
use Rattle.sectors.proofs.disk.SectorDisk.find.Goals as goal

pub overflow_cast-result : goal.overflow_cast-result
overflow_cast-result c =
    let x = c.args.self.now in
    let within = passed-range (disk_of (vec_items x.bytes) x.protected) c.args.block c.size.result c.args.len c.size.ensures c.in_ok-check_range.ensures in
    omega (arith, (block-and-length (vec_items x.bytes) x.protected c.args.block c.args.len within).0)

pub invariant_of-result : goal.invariant_of-result
invariant_of-result c =
    let x = c.args.self.now in
    let within = passed-range (disk_of (vec_items x.bytes) x.protected) c.args.block c.size.result c.args.len c.size.ensures c.in_ok-check_range.ensures in
    record { on_disk = (block-and-length (vec_items x.bytes) x.protected c.args.block c.args.len within).0 }
