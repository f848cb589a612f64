use Rattle.std.proofs.Common.{length, sym, ap, ◌∙◌}
use Rattle.unit.specs.Calls.{named}
use Rattle.unit.proofs.questions.find_named.Goals as goal

pub returns-in-Whole-clause-reply : goal.returns-in-Whole-clause-reply
returns-in-Whole-clause-reply g c =
    c.found_by.ensures.reply ∙ ap (λ kind. named (g.D.BlockDevice.meaning c.args.device.now) kind c.args.name.now (length c.args.work.now) c.args.pack) (sym c.in-Whole.is)

pub returns-in-Stem-clause-reply : goal.returns-in-Stem-clause-reply
returns-in-Stem-clause-reply g c =
    c.found_by-in-Stem.ensures.reply ∙ ap (λ kind. named (g.D.BlockDevice.meaning c.args.device.now) kind c.args.name.now (length c.args.work.now) c.args.pack) (sym c.in-Stem.is)
