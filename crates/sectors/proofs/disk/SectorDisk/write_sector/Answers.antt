use Rattle.std.proofs.Common.{◌≡◌, ◌+◌, ◌-◌, ◌*◌, ◌≤◌, ◌<◌, eqb, get_or, length, vec_items, sym, ap, ap₂, subst, ◌∙◌, arith}
use Rattle.std.proofs.lemmas.List.{with_items_is}
use Rattle.parts.proofs.Storing.{length-stored, stored-mid, stored-small}
use Rattle.parts.specs.Parts.{stored}
use Rattle.sectors.specs.Disks.{is_disk, record_count, start_of}
use Rattle.sectors.specs.Sectoring.{disk-length, start-within}
use Rattle.sectors.proofs.disk.SectorDisk.write_sector.Goals as goal

pub invariant_of-self : goal.invariant_of-self
invariant_of-self c =
    let x = c.args.self.now in
    let xs = vec_items x.bytes in
    let ys = c.args.bytes.now in
    let at = start_of c.args.sector.number in
    let fits : at + length ys ≤ length xs = omega (arith, disk-length xs x.whole, start-within c.args.sector.number c.args.sector.on_disk) in
    let size : c.start-start.result + 512 - c.start-start.result ≡ length ys = omega arith in
    let copied = stored-mid c.deref_mut.result.now c.copy_from_slice.new.self ys c.start-start.result _ c.copy_from_slice.ensures.after size ∙ ap₂ (λ zs from. stored zs from ys) c.deref_mut.ensures.value c.start-start.ensures.value in
    let long = length-stored xs at ys fits in
    let same = with_items_is x.bytes _ (ap length copied ∙ long ∙ sym x.bytes.ok.0) ∙ copied in
    record {
      whole = ap is_disk same ∙ ap (λ n. eqb n (513 * record_count)) long ∙ x.whole;
      small = λ i. subst (λ zs. get_or zs i 0 < 256) (sym same) (stored-small xs at ys fits x.small (λ j. omega (arith, c.type_inv.bytes j)) i);
    }
