use Rattle.std.proofs.Common.{◌≡◌, take, string_bytes}
use Rattle.console.specs.Replies.{hex_text}
use Rattle.console.proofs.replies.hex_text.Given as goal

abbrev pub invariant-loop-byte : goal.invariant-loop-byte
invariant-loop-byte l = string_bytes l.out ≡ hex_text (take l.byte-index l.bytes)
