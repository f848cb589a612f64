use Rattle.std.proofs.Common.{length, sym, ap, ◌∙◌}
use Rattle.names.proofs.Fields.{filled}
use Rattle.names.proofs.name.to_field.Goals as goal

pub returns : goal.returns
returns c =
    filled c.args.given.now c.copy_from_slice.new.self (length c.characters-name.result.now)
    (c.copy_from_slice.ensures.after ∙ c.characters-name.ensures) (ap length (sym c.copy_from_slice.ensures.after)) c.requires
