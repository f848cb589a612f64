use Rattle.std.proofs.Common.{vec_items}
use Rattle.blocks.specs.Imaging.{encoded-image}
use Rattle.blocks.proofs.images.Image.into_bytes.Goals as goal

pub returns : goal.returns
returns c = encoded-image (vec_items c.args.self.bytes) c.args.self.protected c.args.self.whole
