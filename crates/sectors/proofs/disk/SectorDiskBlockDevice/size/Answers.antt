use Rattle.std.proofs.Common.{vec_items, sym}
use Rattle.sectors.specs.Sectoring.{disk-size}
use Rattle.sectors.proofs.disk.SectorDiskBlockDevice.size.Goals as goal

pub returns : goal.returns
returns c = sym (disk-size (vec_items c.args.self.now.bytes) c.args.self.now.protected)
