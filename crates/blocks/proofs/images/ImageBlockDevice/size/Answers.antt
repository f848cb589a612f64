use Rattle.std.proofs.Common.{◌/◌, vec_items, sym, ap, ◌∙◌}
use Rattle.blocks.specs.Imaging.{image-size}
use Rattle.blocks.proofs.images.ImageBlockDevice.size.Goals as goal

pub returns : goal.returns
returns c =
    ap (λ n. n / 1024) (c.len.ensures ∙ c.args.self.now.bytes.ok.0)
    ∙ sym (image-size (vec_items c.args.self.now.bytes) c.args.self.now.protected)
