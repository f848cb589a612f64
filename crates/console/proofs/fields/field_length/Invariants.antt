use Rattle.std.proofs.Common.{◌≡◌, ◌+◌, false, drop}
use Rattle.console.specs.Fields.{field_length}
use Rattle.console.proofs.fields.field_length.Given as goal

-- what was passed and the field at the front of what is left are the first field
abbrev pub invariant-loop-index : goal.invariant-loop-index
invariant-loop-index l = l.index + field_length l.quoted (drop l.index l.line) ≡ field_length false l.line
