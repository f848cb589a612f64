use Rattle.std.proofs.Common.{ap, ◌∙◌}
use Rattle.listing.specs.Catalogues.{catalogue_text, left_text, volume_text}
use Rattle.listing.specs.Walked.{bytes_of, found_in}
use Rattle.lines.proofs.Padding.{text-is}
use Rattle.listing.proofs.Pieces.{page-is}
use Rattle.listing.proofs.files.Files.catalogue_text.Goals as goal

pub returns : goal.returns
returns c =
    let files = c.args.self.now in
    text-is c.format.result _ (catalogue_text (bytes_of files.directory) (found_in files))
    (page-is (c.in_ok-volume.ensures ∙ (λ i. volume_text (c.size.ensures i) (c.entry.ensures i)))
    c.in_ok-rows.ensures (c.in_ok-left.ensures ∙ ap left_text c.entry-2.ensures) c.in_ok-done.ensures)
    c.format.ensures.ok
