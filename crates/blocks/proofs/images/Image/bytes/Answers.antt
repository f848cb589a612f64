use Rattle.std.proofs.Common.{vec_items, ◌∙◌}
use Rattle.blocks.specs.Imaging.{encoded-image}
use Rattle.blocks.proofs.images.Image.bytes.Goals as goal

pub returns : goal.returns
returns c =
    c.as_slice.ensures.value
    ∙ encoded-image (vec_items c.args.self.now.bytes) c.args.self.now.protected c.args.self.now.whole
