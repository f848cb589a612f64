use Rattle.std.proofs.Common.{◌≡◌, ◌+◌, ◌-◌, length, take, drop, vec_items, ◌∙◌, ap₂, arith}
use Rattle.blocks.specs.Imaging.{image-filled, image-read}
use Rattle.blocks.proofs.images.ImageBlockDevice.read.Goals as goal

pub returns : goal.returns
returns c =
    let x = c.args.self.now in
    let xs = vec_items x.bytes in
    let len = length c.args.buffer.now in
    let found = c.in_ok-at.ensures in
    let at = c.in_ok-at.at in
    let size : at + 1024 - at ≡ 1024 = omega arith in
    record {
      reply = image-read xs x.protected x.whole c.args.block len found.0;
      filled =
          c.copy_from_slice.ensures.after ∙ ap₂ (λ ys from. take (at + 1024 - at) (drop from ys)) c.deref.ensures.value found.1
          ∙ image-filled xs x.protected x.whole c.args.block len found.0 _ size c.args.buffer.now;
    }
