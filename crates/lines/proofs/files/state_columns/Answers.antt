use Rattle.std.proofs.Common.{◌≡◌, ◌++◌, length, codes, string_bytes, subst, ap, ◌∙◌, arith}
use Rattle.std.specs.Str.{IsAscii}
use Rattle.lines.specs.Rows.{letters, state_columns, state_text}
use Rattle.entry.specs.Fields.{attributes_of}
use Rattle.lines.proofs.Padding.{left-column, state-ascii, state-short, string-short, text-is}
use Rattle.lines.proofs.files.state_columns.Goals as goal

pub returns : goal.returns
returns c =
    let byte = attributes_of c.args.entry.now.bytes in
    let told = c.state_text-state.ensures ∙ ap state_text c.attributes.ensures in
    let state = left-column 7 _ _ _ (omega arith) c.laid_out.ensures told (state-ascii byte) (omega (arith, state-short byte, ap length told)) in
    let is : string_bytes c.in_ok-letters.letters ≡ letters byte = c.in_ok-letters.ensures.value ∙ ap letters c.attributes-2.ensures in
    let letters = left-column 10 _ _ _ (omega arith) c.laid_out-2.ensures is (subst IsAscii is c.in_ok-letters.ensures.ascii) (string-short c.in_ok-letters.letters) in
    text-is c.format.result _ (state_columns c.args.entry.now.bytes) (λ i. state i ++ (codes "  " ++ letters i)) c.format.ensures.ok
