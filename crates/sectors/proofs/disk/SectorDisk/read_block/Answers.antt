use Rattle.std.proofs.Common.{ℕ, ◌≡◌, ◌+◌, ◌-◌, ◌*◌, ◌++◌, length, drop, vec_items, sym, ap, ap₂, ◌∙◌, arith}
use borrow.Rule.Slice.PartMut.{put_mid}
use Rattle.std.proofs.lemmas.List.{length-append, length-drop, length-take}
use Rattle.sectors.specs.Disks.{sector_bytes}
use Rattle.sectors.specs.Sectoring.{disk-block, disk-length, halves, length-sector}
use Rattle.sectors.proofs.disk.SectorDisk.read_block.Goals as goal

pub slice_bounds-copy_from_slice-end-2 : goal.slice_bounds-copy_from_slice-end-2
slice_bounds-copy_from_slice-end-2 c = omega (arith, length-take 512 c.args.buffer.now)

pub copy_from_slice-requires : goal.copy_from_slice-requires
copy_from_slice-requires c = omega (arith, c.sector.ensures.length, length-take 512 c.args.buffer.now)

pub copy_from_slice-requires-2 : goal.copy_from_slice-requires-2
copy_from_slice-requires-2 c =
    omega (arith, c.sector-2.ensures.length, c.copy_from_slice.ensures.len, length-take 512 c.args.buffer.now, length-take {A = ℕ}, length-drop {A = ℕ}, length-append {A = ℕ})

pub returns : goal.returns
returns c =
    let x = c.args.self.now in
    let xs = vec_items x.bytes in
    let b = c.args.place.block in
    let one = sector_bytes xs (2 * b) in
    let two = sector_bytes xs (2 * b + 1) in
    let rest = drop 512 c.args.buffer.now in
    let wide = length-sector xs (2 * b) (disk-length xs x.whole) (omega arith) in
    let first : c.copy_from_slice.new.self ≡ one = c.copy_from_slice.ensures.after ∙ c.sector.ensures.bytes ∙ ap (sector_bytes xs) c.sectors.ensures.first in
    let second : c.copy_from_slice-2.new.self ≡ two = c.copy_from_slice-2.ensures.after ∙ c.sector-2.ensures.bytes ∙ ap (sector_bytes xs) c.sectors.ensures.second in
    ap₂ (λ y z. put_mid 512 (length (y ++ rest) - 512) (y ++ rest) z) first second
    ∙ halves one rest two _ wide (omega (arith, length-append one rest)) ∙ sym (disk-block xs x.protected b c.args.place.on_disk)
