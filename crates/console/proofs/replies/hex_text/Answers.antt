use Rattle.std.proofs.Common.{arith}
use Rattle.console.proofs.Telling.{hex-more}
use Rattle.console.proofs.replies.hex_text.Goals as goal

pub loop-byte-preserved : goal.loop-byte-preserved
loop-byte-preserved c = hex-more c.args.bytes.now _ _ c.loop-byte.byte-index (omega arith) c.loop-byte.invariant c.in_ok-push_hex.ensures
