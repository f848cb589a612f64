use Rattle.std.proofs.Common.{cond, length, Err, sym, ap, ◌∙◌}
use Rattle.refusal.specs.declared.Refusal.TheVariants.{BadName}
use Rattle.entry.specs.Fields.{name_of}
use Rattle.directory.specs.Lookups.{lookup_reply}
use Rattle.unit.proofs.questions.found_by.Goals as goal

pub returns-clause-reply : goal.returns-clause-reply
returns-clause-reply g c =
    let d = g.D.BlockDevice.meaning c.args.device.now in
    let name = c.args.name.now in
    let len = length c.args.work.now in
    let fitting = g.R.FileRule.fitting in
    let made = c.in_ok-key.ensures in
    c.lookup.ensures.reply
    ∙ (λ i. lookup_reply (λ bytes. (ap (λ field. fitting field (name_of bytes)) made.1 ∙ g.met.R.FileRule.alike name (name_of bytes)) i) d c.args.pack.directory len)
    ∙ sym (ap (λ t. cond t (lookup_reply (λ bytes. fitting name (name_of bytes)) d c.args.pack.directory len) (Err BadName)) made.0)
