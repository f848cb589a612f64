use Rattle.std.proofs.Common.{◌≤◌, false, subst, rules}
use Rattle.std.specs.Fn.{FnReturnsAt}
use Rattle.std.specs.List.{concat}
use Rattle.listing.specs.Walks.{entry_at, entry_of}
use borrow.Author.Count.{below_more}
use Rattle.listing.proofs.directory.Directory.first.Goals as goal

pub loop-number-preserved : goal.loop-number-preserved
loop-number-preserved g c =
    let blocks = concat c.args.self.now.blocks.items in
    let at : FnReturnsAt g.F.Fn c.args.test c.entry.result false = search rules in
    below_more (λ k. c.args.from ≤ k → FnReturnsAt g.F.Fn c.args.test (entry_of (entry_at blocks k)) false) c.loop-number.number c.loop-number.invariant
    (λ h. subst (λ bytes. FnReturnsAt g.F.Fn c.args.test (entry_of bytes) false) c.entry.ensures at)
