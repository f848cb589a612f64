use Rattle.std.proofs.Common.{◌≡◌, ◌+◌, ◌-◌, ◌*◌, length, vec_items, sym, refl, ap, ◌∙◌, ap₂, arith}
use Rattle.std.proofs.lemmas.List.{with_items_is}
use Rattle.blocks.specs.Devices.{outcome}
use Rattle.blocks.specs.Held.{device_of}
use Rattle.blocks.specs.Images.{image_of}
use Rattle.blocks.specs.Imaging.{image-after, image-written-none, tab-off}
use Rattle.blocks.specs.Ranges.{range-facts}
use Rattle.parts.specs.Parts.{stored}
use Rattle.parts.proofs.Storing.{length-stored, stored-mid}
use Rattle.blocks.proofs.images.ImageBlockDevice.write.Goals as goal

pub returns : goal.returns
returns c =
    let x = c.args.self.now in
    let xs = vec_items x.bytes in
    let ys = c.args.buffer.now in
    let found = c.in_ok-at.ensures in
    let at = c.in_ok-at.at in
    let off = tab-off x.protected c.tab.result c.tab.ensures c.in_ok-check.ensures in
    let wide = (range-facts (device_of x) c.args.block (length ys) found.0).1 in
    let size : at + 1024 - at ≡ length ys = omega arith in
    let copied = stored-mid c.deref_mut.result.now c.copy_from_slice.new.self ys at _ c.copy_from_slice.ensures.after size ∙ ap₂ (λ zs from. stored zs from ys) c.deref_mut.ensures.value found.1 in
    let same = with_items_is x.bytes _ (ap length copied ∙ length-stored xs (1024 * c.args.block) ys (omega arith) ∙ sym x.bytes.ok.0) ∙ copied in
    record {
      reply = sym (ap outcome (image-written-none xs x.protected x.whole c.args.block (length ys) found.0 off));
      after = ap (λ zs. image_of zs x.protected) same ∙ image-after xs x.protected x.whole c.args.block (length ys) found.0 ys refl off;
    }
