use Rattle.std.proofs.Common.{vec_items, ◌∙◌}
use Rattle.sectors.specs.Sectoring.{disk-length, encoded-disk}
use Rattle.sectors.proofs.disk.SectorDisk.bytes.Goals as goal

pub returns : goal.returns
returns c =
    let x = c.args.self.now in
    c.as_slice.ensures.value ∙ encoded-disk (vec_items x.bytes) x.protected (disk-length (vec_items x.bytes) x.whole)
