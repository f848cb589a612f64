use Rattle.std.proofs.Common.{◌-◌, ◌*◌, length, max}
use Rattle.directory.proofs.Matching.{Ahead}
use Rattle.directory.proofs.lookups.lookup.Given as goal

-- the files from this one on are still ahead
abbrev pub invariant-loop-number : goal.invariant-loop-number
invariant-loop-number g l =
    Ahead (g.K.Key.meaning l.key) (g.D.BlockDevice.meaning l.device) l.directory (length l.fn.work) l.number

-- those of this block and behind it are
abbrev pub invariant-loop-block : goal.invariant-loop-block
invariant-loop-block g l =
    Ahead (g.K.Key.meaning l.key) (g.D.BlockDevice.meaning l.device) l.directory (length l.fn.work) (max (39 * (l.block - 1)) 3)
