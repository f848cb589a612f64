use Rattle.std.proofs.Common.{◌≡◌, ◌+◌, ◌-◌, ◌*◌, ◌≤◌, length}
use Rattle.directory.specs.Judgements.{first_unread}
use Rattle.directory.proofs.Passing.{SoFar}
use Rattle.directory.proofs.judgement.judge_files.Given as goal

-- all blocks before this one have been seen, and what is left to read gives what the whole gives
abbrev pub invariant-loop-place : goal.invariant-loop-place
invariant-loop-place g l = record {
  high : l.place ≤ l.fn.counts.directory + 1;
  full : length l.block ≡ 1024;
  seen : SoFar (g.D.BlockDevice.meaning l.device) (39 * (l.place - 1)) l.seen;
  left : first_unread (g.D.BlockDevice.meaning l.device) l.place (l.fn.counts.directory + 1 - l.place)
      ≡ first_unread (g.D.BlockDevice.meaning l.device) 2 (l.fn.counts.directory - 1);
}
