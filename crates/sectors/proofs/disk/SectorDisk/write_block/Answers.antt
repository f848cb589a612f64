use Rattle.std.proofs.Common.{◌≡◌, ◌+◌, ◌-◌, ◌*◌, length, take, drop, vec_items, ap, ap₂, ◌∙◌, arith}
use Rattle.std.proofs.lemmas.List.{length-take}
use Rattle.parts.specs.Parts.{stored}
use Rattle.sectors.specs.Disks.{disk_of, start_of, statuses}
use Rattle.sectors.specs.Sectoring.{disk-after, written-statuses}
use Rattle.sectors.proofs.disk.SectorDisk.write_block.Goals as goal

pub slice_bounds-write_sector-end : goal.slice_bounds-write_sector-end
slice_bounds-write_sector-end c = omega (arith, length-take 512 c.args.buffer.now)

pub returns : goal.returns
returns c =
    let x = c.args.self.now in
    let xs = vec_items x.bytes in
    let ys = c.args.buffer.now in
    let b = c.args.place.block in
    let rest : length ys - 512 ≡ 512 = omega arith in
    let both : vec_items c.write_sector-2.new.self.bytes ≡ stored (stored xs (start_of (2 * b)) (take 512 ys)) (start_of (2 * b + 1)) (take 512 (drop 512 ys)) =
    c.write_sector-2.ensures.bytes
    ∙ ap₂ (λ zs n. stored zs (start_of c.sectors.result.1.number) (take n (drop 512 ys))) c.write_sector.ensures.bytes rest
    ∙ ap₂ (λ f s. stored (stored xs (start_of f) (take 512 ys)) (start_of s) (take 512 (drop 512 ys))) c.sectors.ensures.first c.sectors.ensures.second in
    record {
      after = ap₂ disk_of both (c.write_sector-2.ensures.tab ∙ c.write_sector.ensures.tab) ∙ disk-after xs x.protected x.whole b c.args.place.on_disk ys c.requires;
      statuses = ap statuses both ∙ written-statuses xs x.protected x.whole b c.args.place.on_disk ys c.requires;
    }
