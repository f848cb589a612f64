use Rattle.std.proofs.Common.{vec_items, arith}
use Rattle.blocks.specs.Held.{device_of}
use Rattle.blocks.specs.Imaging.{image-fits}
use Rattle.blocks.specs.Ranges.{passed-range}
use Rattle.blocks.proofs.images.Image.find.Goals as goal

pub returns : goal.returns
returns c =
    let x = c.args.self.now in
    let within = passed-range (device_of x) c.args.block c.size.result c.args.len c.size.ensures c.in_ok-check_range.ensures in
    (within, omega arith, image-fits (vec_items x.bytes) x.protected x.whole c.args.block c.args.len within)
