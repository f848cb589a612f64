use Rattle.std.proofs.Common.{◌/◌, ◌%◌, ◌<◌, [], ◌∷◌, string_bytes, refl, ap, ◌∙◌, arith}
use lib.Utf8.{encode}
use Rattle.std.proofs.lemmas.Slice.{pushed}
use Rattle.console.proofs.Telling.{paired, hex-ascii}
use Rattle.console.proofs.replies.push_hex.Goals as goal

pub returns : goal.returns
returns c =
    let high : c.hex_digit.result < 128 = omega (arith, c.hex_digit.ensures, hex-ascii (c.args.byte / 16) (omega arith)) in
    let low : c.hex_digit-2.result < 128 = omega (arith, c.hex_digit-2.ensures, hex-ascii (c.args.byte % 16) (omega arith)) in
    paired c.push-2.result _ _ _ _ _ c.args.byte (pushed {was = string_bytes c.args.out.now} (encode c.hex_digit.result) refl c.in_ok-push.was c.push.ensures.bytes) c.push-2.ensures.bytes
    (c.push.ensures.ascii high ∙ ap (λ n. n ∷ []) c.hex_digit.ensures)
    (c.push-2.ensures.ascii low ∙ ap (λ n. n ∷ []) c.hex_digit-2.ensures)
