use Rattle.std.proofs.Common.{◌+◌, ◌∷◌, ◌++◌, length, ap, ◌∙◌, ap₂}
use Rattle.std.specs.Option.{option_map}
use Rattle.entry.specs.Fields.{check_bytes, long_bytes}
use Rattle.model.specs.Fresh.{dated}
use Rattle.model.specs.Models.{stamp_of_date}
use Rattle.model.proofs.Fields.{field-long}
use Rattle.unit.proofs.Building.{volume-built}
use Rattle.unit.proofs.fresh.Fresh.volume_entry.Goals as goal

pub returns : goal.returns
returns c =
    let shape = c.args.self.now.shape in
    let field = c.field.ensures ∙ shape.name.padded in
    volume-built c.field.result (ap length field ∙ field-long shape.name.field shape.name.kept) (128 + shape.directory) c.args.self.now.date c.from.result _ _ _
    c.entry_of-entry.ensures c.set_check_bytes.ensures c.set_size.ensures
    ∙ ap₂ (λ front n. front ++ ((128 + shape.directory) ∷ (check_bytes ++ (long_bytes n ++ (0 ∷ 0 ∷ dated (option_map stamp_of_date c.args.self.now.date)))))) field c.from.ensures
