use Rattle.std.proofs.Common.{◌≡◌, take, string_bytes}
use Rattle.std.specs.List.{flat_map}
use Rattle.lines.proofs.Lettering.{shown}
use Rattle.lines.proofs.files.letters.Given as goal

abbrev pub invariant-loop-attribute : goal.invariant-loop-attribute
invariant-loop-attribute l = string_bytes l.text ≡ flat_map (shown l.of.byte) (take l.attribute-index l.attribute-items)
