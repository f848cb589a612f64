use Rattle.std.proofs.Common.{◌≡◌, ◌++◌, codes, string_bytes, subst, arith}
use Rattle.std.specs.Str.{IsAscii}
use Rattle.lines.specs.Rows.{length_text, place_text}
use Rattle.lines.proofs.Padding.{number-column, right-column, string-short, text-is}
use Rattle.lines.proofs.files.place_columns.Goals as goal

pub returns : goal.returns
returns c =
    let first = number-column 5 _ _ _ (omega arith) c.laid_out.ensures c.first_block-first.ensures in
    let room = number-column 5 _ _ _ (omega arith) c.laid_out-2.ensures c.room-room.ensures in
    let is : string_bytes c.in_ok-length.length ≡ length_text c.args.entry.now.bytes = c.in_ok-length.ensures.value in
    let length = right-column 8 _ _ _ (omega arith) c.laid_out-3.ensures is (subst IsAscii is c.in_ok-length.ensures.ascii) (string-short c.in_ok-length.length) in
    text-is c.format.result _ (place_text c.args.entry.now.bytes) (λ i. first i ++ (codes "  " ++ (room i ++ (codes "  " ++ length i)))) c.format.ensures.ok
