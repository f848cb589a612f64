use Rattle.std.proofs.Common.{◌≡◌, ◌+◌, ◌-◌, length}
use Rattle.std.specs.List.{All, concat}
use Rattle.listing.specs.Loads.{more}
use Rattle.listing.proofs.load.load_more.Given as goal

-- what is left to read gives what the whole gives
abbrev pub invariant-loop-block : goal.invariant-loop-block
invariant-loop-block g l = record {
  rest :
      more (g.D.BlockDevice.meaning l.device) l.block (l.count + 1 - l.block) (concat l.blocks.items)
      ≡ more (g.D.BlockDevice.meaning l.device) 2 (l.count - 1) (concat l.initial.blocks.items);
  read : length l.blocks.items + 2 ≡ length l.initial.blocks.items + l.block;
  whole : All (λ block. length block ≡ 1024) l.blocks.items;
}
