use Rattle.std.proofs.Common.{Ok, ap, ◌∙◌}
use Rattle.listing.specs.Catalogues.{catalogue_text, printed}
use Rattle.listing.specs.Loads.{Read, then}
use Rattle.listing.specs.Walked.{bytes_of, found_in}
use Rattle.listing.specs.Walks.{directory_walked}
use Rattle.listing.proofs.catalogues.catalogue.Goals as goal

pub returns : goal.returns
returns g c =
    let read = c.in_ok-load.field-0 in
    let files = c.in_ok-files.files in
    ap Ok (c.in_ok-catalogue_text.ensures ∙ ap (λ w. catalogue_text (bytes_of w) (found_in files)) c.in_ok-files.ensures.kept)
    ∙ ap (printed (catalogue_text (bytes_of read))) c.in_ok-files.ensures.value
    ∙ ap (λ o. then o (λ (r : Read). printed (catalogue_text r.bytes) (directory_walked r.bytes r.blocks))) c.in_ok-load.ensures
