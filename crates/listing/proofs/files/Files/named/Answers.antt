use Rattle.std.proofs.Common.{◌-◌, Ok, Err, cond, sym, ap, ◌∙◌, arith, rules}
use Rattle.std.specs.List.{concat}
use Rattle.refusal.specs.declared.Refusal.TheVariants.{BadName}
use Rattle.listing.specs.Finds.{live}
use Rattle.listing.specs.Walks.{first_that}
use Rattle.listing.proofs.Finding.{field-finds}
use Rattle.listing.proofs.Walking.{first-is}
use Rattle.listing.proofs.files.Files.named.Goals as goal

pub returns-clause-value : goal.returns-clause-value
returns-clause-value g c =
    let files = c.args.self.now in
    let bytes = concat files.directory.blocks.items in
    let given = c.args.given.now in
    let fits = g.R.FileRule.fitting in
    let made = c.in_ok-name.ensures in
    let found =
    first-is _ (live fits c.in_ok-name.name.field) bytes 3 files.left c.first.result c.first.ensures (λ x b t. search rules) (omega (arith, files.from))
    ∙ field-finds fits g.met.R.FileRule.alike bytes given c.in_ok-name.name.field (files.left - 3) made.1 in
    ap Ok found ∙ sym (ap (λ b. cond b (Ok (first_that (live fits given) bytes 3 (files.left - 3))) (Err BadName)) made.0)
