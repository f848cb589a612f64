use Rattle.std.proofs.Common.{true, false, vec_items}
use Rattle.sectors.specs.Sectoring.{disk-mark-at}
use Rattle.sectors.proofs.disk.SectorDisk.mark.Goals as goal

pub returns-then-is_good : goal.returns-then-is_good
returns-then-is_good c =
    disk-mark-at (vec_items c.args.self.now.bytes) c.args.self.now.protected c.args.place.block c.args.place.on_disk true c.if-is_good.ensures

pub returns-else-is_good : goal.returns-else-is_good
returns-else-is_good c =
    disk-mark-at (vec_items c.args.self.now.bytes) c.args.self.now.protected c.args.place.block c.args.place.on_disk false c.if-is_good.ensures
