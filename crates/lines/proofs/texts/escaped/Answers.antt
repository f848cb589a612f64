use Rattle.std.proofs.Common.{ap, ◌∙◌, arith}
use Rattle.std.proofs.lemmas.List.{take_all}
use Rattle.lines.specs.Texts.{escaped}
use Rattle.lines.proofs.Escaping.{escaped-more}
use Rattle.lines.proofs.texts.escaped.Goals as goal

pub loop-byte-preserved : goal.loop-byte-preserved
loop-byte-preserved c = escaped-more c.args.name.now _ _ c.loop-byte.byte-index (omega arith) c.loop-byte.invariant c.in_ok-push_byte.ensures

pub returns : goal.returns
returns c = c.loop-byte.invariant ∙ ap escaped (take_all c.loop-byte.byte-index c.args.name.now (omega arith))
