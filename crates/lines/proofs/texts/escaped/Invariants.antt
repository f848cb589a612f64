use Rattle.std.proofs.Common.{◌≡◌, take, string_bytes}
use Rattle.lines.specs.Texts.{escaped}
use Rattle.lines.proofs.texts.escaped.Given as goal

abbrev pub invariant-loop-byte : goal.invariant-loop-byte
invariant-loop-byte l = string_bytes l.out ≡ escaped (take l.byte-index l.name)
