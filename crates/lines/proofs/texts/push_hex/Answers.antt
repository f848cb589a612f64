use Rattle.std.proofs.Common.{◌/◌, ◌%◌, ◌<◌, [], ◌∷◌, refl, ap, ◌∙◌, arith}
use Rattle.std.proofs.lemmas.Slice.{pushed}
use Rattle.lines.proofs.Escaping.{hexed, hex-ascii}
use Rattle.lines.proofs.texts.push_hex.Goals as goal

pub returns : goal.returns
returns c =
    let front = pushed (92 ∷ 120 ∷ []) refl c.in_ok-push_str.was c.push_str.ensures.bytes in
    let low : c.hex_digit.result < 128 = omega (arith, c.hex_digit.ensures, hex-ascii (c.args.byte / 16) (omega arith)) in
    let low' : c.hex_digit-2.result < 128 = omega (arith, c.hex_digit-2.ensures, hex-ascii (c.args.byte % 16) (omega arith)) in
    hexed c.push-2.result _ _ _ _ _ c.args.byte (pushed _ front c.in_ok-push.was c.push.ensures.bytes) c.push-2.ensures.bytes
    (c.push.ensures.ascii low ∙ ap (λ n. n ∷ []) c.hex_digit.ensures)
    (c.push-2.ensures.ascii low' ∙ ap (λ n. n ∷ []) c.hex_digit-2.ensures)
