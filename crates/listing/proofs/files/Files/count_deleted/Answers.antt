use Rattle.std.proofs.Common.{true, false, sym, ap, ◌∙◌, arith}
use Rattle.std.specs.List.{concat}
use Rattle.listing.specs.Walks.{is_deleted}
use Rattle.listing.proofs.Counting.{count-more}
use Rattle.listing.proofs.files.Files.count_deleted.Goals as goal
use Rattle.listing.proofs.files.Files.count_deleted.Goals.{then-is_deleted, else-is_deleted}

pub loop-number-preserved : goal.loop-number-preserved
loop-number-preserved c =
    let bytes = concat c.args.self.now.directory.blocks.items in
    let told = c.is_deleted.ensures ∙ ap is_deleted c.entry.ensures in
    elim c.if-is_deleted.branch [
      | then-is_deleted w ↦ count-more is_deleted bytes c.loop-number.number c.args.self.now.left c.loop-number.count c.if-is_deleted.count _ true
          c.loop-number-test.true (sym told ∙ w.if-is_deleted.true) w.count-is c.loop-number.invariant.1 c.loop-number.invariant.0
      | else-is_deleted w ↦ count-more is_deleted bytes c.loop-number.number c.args.self.now.left c.loop-number.count c.if-is_deleted.count _ false
          c.loop-number-test.true (sym told ∙ w.if-is_deleted.false) (omega (arith, w.count-is)) c.loop-number.invariant.1 c.loop-number.invariant.0
    ]
