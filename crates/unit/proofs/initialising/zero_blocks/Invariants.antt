use Rattle.std.proofs.Common.{◌≡◌, ◌+◌, ◌-◌}
use Rattle.unit.specs.Calls.{cleared}
use Rattle.unit.proofs.initialising.zero_blocks.Given as goal

-- what is left to write makes what the whole makes
abbrev pub invariant-loop-block : goal.invariant-loop-block
invariant-loop-block g l =
    cleared (g.D.BlockDevice.meaning l.device) l.block (l.directory + 1 - l.block) ≡ cleared (g.D.BlockDevice.meaning l.initial.device) 2 (l.directory - 1)
