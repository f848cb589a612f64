use Rattle.std.proofs.Common.{◌∙◌}
use Rattle.directory.proofs.Testing.{any-etx}
use Rattle.directory.proofs.layout.has_etx.Goals as goal

pub returns : goal.returns
returns c = c.contains.ensures.value ∙ any-etx c.args.field.now
