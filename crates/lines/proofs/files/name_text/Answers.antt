use Rattle.std.proofs.Common.{◌++◌, ◌-◌, ◌<◌, length, take, drop, codes, ap, ◌∙◌, arith}
use Rattle.std.proofs.lemmas.List.Elements.{All-drop, All-from_get_or, All-take}
use Rattle.std.specs.List.{All}
use Rattle.names.specs.Names.{before_last}
use Rattle.lines.specs.Rows.{last_one, name_text}
use Rattle.lines.specs.Texts.{escaped}
use Rattle.lines.proofs.Padding.{escaped-ascii, left-column, string-short, text-is}
use Rattle.lines.proofs.files.name_text.Goals as goal

pub returns : goal.returns
returns c =
    let name = c.args.name.now in
    let last = length name - 1 in
    let small : All (λ b. b < 256) name = All-from_get_or (λ b. b < 256) name 0 (λ i h. (c.type_inv.name i).fits) in
    let front = c.split_at.ensures.front ∙ ap (λ n. take n name) c.saturating_sub.ensures in
    let back = c.split_at.ensures.back ∙ ap (λ n. drop n name) c.saturating_sub.ensures in
    let stem = left-column 10 _ (escaped (before_last name)) _ (omega arith) c.laid_out.ensures (c.in_ok-stem.ensures ∙ ap escaped front) (escaped-ascii (before_last name) (All-take (λ b. b < 256) last name small)) (string-short c.in_ok-stem.stem) in
    let letter = left-column 1 _ (escaped (last_one name)) _ (omega arith) c.laid_out-2.ensures (c.in_ok-type_letter.ensures ∙ ap escaped back) (escaped-ascii (last_one name) (All-drop (λ b. b < 256) last name small)) (string-short c.in_ok-type_letter.type_letter) in
    text-is c.format.result _ (name_text name) (λ i. stem i ++ (codes " " ++ letter i)) c.format.ensures.ok
