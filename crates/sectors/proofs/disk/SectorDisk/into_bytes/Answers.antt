use Rattle.std.proofs.Common.{vec_items}
use Rattle.sectors.specs.Sectoring.{disk-length, encoded-disk}
use Rattle.sectors.proofs.disk.SectorDisk.into_bytes.Goals as goal

pub returns : goal.returns
returns c =
    let xs = vec_items c.args.self.bytes in
    encoded-disk xs c.args.self.protected (disk-length xs c.args.self.whole)
