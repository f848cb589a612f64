use Rattle.std.proofs.Common.{replicate, ap, ◌∙◌}
use Rattle.std.specs.Option.{option_map}
use Rattle.parts.specs.Parts.{stored}
use Rattle.model.specs.Fresh.{boot_entry, directory_entry, left_entry, volume_entry}
use Rattle.model.specs.Models.{stamp_of_date}
use Rattle.model.proofs.Fields.{boot-long, directory-long, left-long, volume-long}
use Rattle.unit.proofs.Building.{four}
use Rattle.unit.proofs.fresh.Fresh.fill_first.Goals as goal

pub returns : goal.returns
returns c =
    let date = option_map stamp_of_date c.args.self.now.date in
    let shape = c.args.self.now.shape in
    let name = shape.name.field in
    four (volume_entry name shape.directory shape.blocks date) (boot_entry date) (directory_entry shape.directory date) (left_entry shape.directory shape.blocks date)
    (volume-long name shape.directory shape.blocks date shape.name.kept) (boot-long date) (directory-long shape.directory date) (left-long shape.directory shape.blocks date)
    c.fill.new.self c.put_in.new.block c.put_in-2.new.block c.put_in-3.new.block c.put_in-4.new.block
    (c.fill.ensures.after (λ y h. h) ∙ ap (λ n. replicate n 0) c.told-work)
    (c.put_in.ensures ∙ ap (stored c.fill.new.self 0) c.volume_entry.ensures)
    (c.put_in-2.ensures ∙ ap (stored c.put_in.new.block 26) c.boot_entry.ensures)
    (c.put_in-3.ensures ∙ ap (stored c.put_in-2.new.block 52) c.directory_entry.ensures)
    (c.put_in-4.ensures ∙ ap (stored c.put_in-3.new.block 78) c.left_entry.ensures)
