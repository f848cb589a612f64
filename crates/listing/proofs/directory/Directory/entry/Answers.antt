use Rattle.std.proofs.Common.{◌*◌, ◌%◌, ◌/◌, sym, ap, ◌∙◌, arith}
use Rattle.parts.specs.Parts.{part}
use Rattle.listing.proofs.Joining.{joined-block}
use Rattle.listing.proofs.directory.Directory.entry.Goals as goal

pub returns : goal.returns
returns c =
    let number = c.args.number in
    let block = c.index.ensures ∙ sym (joined-block c.args.self.now.blocks.items (number / 39) c.index.result.now c.args.self.now.whole (omega arith)) in
    c.from_block.ensures ∙ ap (part (26 * (number % 39)) 26) block
