use Rattle.std.proofs.Common.{◌≡◌, ◌+◌, ◌-◌, length}
use Rattle.model.specs.Steps.{first_bad}
use Rattle.unit.proofs.initialising.check_blocks.Given as goal

-- what is left to read gives what the whole gives
abbrev pub invariant-loop-block : goal.invariant-loop-block
invariant-loop-block g l =
    (first_bad (g.D.BlockDevice.meaning l.device).marks l.block (l.directory + 1 - l.block) ≡ first_bad (g.D.BlockDevice.meaning l.device).marks 1 l.directory)
    × (length l.work ≡ 1024)
