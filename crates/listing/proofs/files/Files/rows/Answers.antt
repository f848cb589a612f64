use Rattle.std.proofs.Common.{string_bytes, ap, ◌∙◌}
use Rattle.std.specs.List.{concat}
use Rattle.lines.specs.Rows.{row_text}
use Rattle.listing.proofs.Counting.{rows_more}
use Rattle.listing.proofs.files.Files.rows.Goals as goal

pub loop-number-preserved : goal.loop-number-preserved
loop-number-preserved c =
    rows_more (concat c.args.self.now.directory.blocks.items) c.loop-number.number c.args.self.now.left _ (string_bytes c.in_ok-line.line) _ _ c.loop-number-test.true
    (c.in_ok-line.ensures ∙ ap (row_text c.loop-number.number) c.entry.ensures) c.in_ok-writeln.ensures.bytes c.loop-number.invariant
