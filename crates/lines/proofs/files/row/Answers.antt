use Rattle.std.proofs.Common.{◌++◌, codes, refl, ap, ◌∙◌, arith, string_bytes, ◌≡◌}
use Rattle.names.specs.Names.{characters}
use Rattle.lines.specs.Rows.{date_text, name_text, row_text}
use Rattle.entry.specs.Fields.{date_of, name_of}
use Rattle.entry.specs.Stamps.{stamp_of}
use Rattle.lines.proofs.Padding.{number-column, text-is}
use Rattle.lines.proofs.files.row.Goals as goal

pub returns : goal.returns
returns c =
    let number = number-column 5 c.args.number c.args.number _ (omega arith) c.laid_out.ensures refl in
    let name : string_bytes c.in_ok-name.name ≡ name_text (characters (name_of c.args.entry.now.bytes)) = c.in_ok-name.ensures ∙ ap name_text (c.characters.ensures ∙ ap characters c.name_field.ensures) in
    let state = c.in_ok-state.ensures in
    let place = c.in_ok-place.ensures in
    let date : string_bytes c.in_ok-date.date ≡ date_text (stamp_of (date_of c.args.entry.now.bytes)) = c.in_ok-date.ensures ∙ ap date_text c.stamp.ensures in
    text-is c.format.result _ (row_text c.args.number c.args.entry.now.bytes)
    (λ i. number i ++ (codes "  " ++ (name i ++ (codes "  " ++ (state i ++ (codes "  " ++ (place i ++ (codes "  " ++ date i))))))))
    c.format.ensures.ok
