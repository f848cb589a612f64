use Rattle.std.proofs.Common.{refl}
use Rattle.unit.proofs.Building.{begins}
use Rattle.unit.proofs.fresh.entry_of.Goals as goal

pub returns : goal.returns
returns c = begins c.args.name.now c.told-name c.args.attributes.byte c.args.date _ _ _ _ refl c.set_name_field.ensures c.set_attributes.ensures c.set_date.ensures
