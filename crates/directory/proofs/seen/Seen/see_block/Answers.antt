use Rattle.std.proofs.Common.{sym, ap, ◌∙◌}
use Rattle.entry.specs.Fields.{entry_in}
use Rattle.directory.specs.Seen.{seen_from}
use Rattle.directory.proofs.Passing.{see-on}
use Rattle.directory.proofs.seen.Seen.see_block.Goals as goal

pub loop-number-preserved : goal.loop-number-preserved
loop-number-preserved c =
    let step = c.in-Some.ensures.steps in
    see-on c.args.block.now c.loop-number.self c.see.new.self c.loop-number.number-iterator.start c.loop-number.number-iterator.end c.next.new.self.start c.next.new.self.end
    c.in-Some.number c.from_block.result.bytes step.1.0 step.0 step.1.1 step.1.2 c.see.ensures (c.from_block.ensures ∙ ap (entry_in c.args.block.now) c.from.ensures)
    ∙ c.loop-number.invariant

pub returns : goal.returns
returns c = sym (ap (seen_from c.args.block.now c.loop-number.self c.loop-number.number-iterator.start) c.in-None.ensures.steps.1.0) ∙ c.loop-number.invariant
