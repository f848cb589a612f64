-- The single pass of the judgement through the directory, for the code's inner functions. Assumes nothing.
--   head_fault   the first of the entries 1 and 2 that does not hold, in the first block of the directory
--   seen_after   what has been seen after one entry more; seen_from, after `count` more of a block
--   told         what is answered when all has been seen
--   Begun        what is known where the pass begins
use Rattle.std.specs.Prelude.{◌≡◌, ℕ, zero, suc, ◌+◌, ◌*◌, true, cond, List, is_some, Some, None, Ok, Err, Option, Result}
use Rattle.std.specs.Option.{option_or, unwrap_or}
use Rattle.refusal.specs.declared.Refusal.{Refusal}
use Rattle.refusal.specs.declared.Refusal.TheVariants.{BrokenLayout}
use Rattle.blocks.specs.Devices.{Device, block_at, size_of}
use Rattle.entry.specs.Fields.{entry_in, room_of}
use Rattle.directory.specs.Entries.{entry_at}
use Rattle.directory.specs.Judgements.{is_placed, later_holds, volume_holds}
use Rattle.directory.specs.Layouts.{directory_blocks, end_of, pack_blocks}
use Rattle.directory.specs.Lookups.{is_blocks_left}
use Rattle.directory.specs.declared.judgement.Counts.{Counts}
use Rattle.directory.specs.declared.judgement.Pack.{Pack}
use Rattle.directory.specs.declared.seen.Seen.{Seen}

abbrev pub head_fault : List ℕ → ℕ → Option ℕ
head_fault block directory =
    cond (is_placed 0 1 (entry_in block 1)) (cond (is_placed 1 directory (entry_in block 2)) None (Some 2)) (Some 1)

-- The first fault stays. Nothing behind the BLOCKS LEFT entry is looked at.
abbrev pub seen_after : Seen → ℕ → List ℕ → Seen
seen_after seen e bytes =
    cond (is_some seen.left) seen (record {
      counts = seen.counts;
      end = end_of bytes;
      fault = option_or seen.fault (cond (later_holds seen.counts.blocks seen.end bytes) None (Some e));
      left = cond (is_blocks_left bytes) (Some e) None;
      room = room_of bytes;
    })

abbrev pub seen_from : List ℕ → Seen → ℕ → ℕ → Seen
seen_from block seen e zero = seen
seen_from block seen e (suc count) = seen_from block (seen_after seen e (entry_in block e)) (e + 1) count

abbrev pub told_of : Seen → ℕ → Option ℕ → Result Pack Refusal
told_of seen left None = Ok (record { blocks = seen.counts.blocks; directory = seen.counts.directory; left = left; free = seen.room })
told_of seen left (Some e) = Err (BrokenLayout e)

-- Without a BLOCKS LEFT entry only a fault of the entries 1 and 2 counts.
abbrev pub told_by : Option ℕ → Seen → Option ℕ → Result Pack Refusal
told_by head seen None = Err (BrokenLayout (unwrap_or head (39 * seen.counts.directory)))
told_by head seen (Some left) = told_of seen left (option_or head seen.fault)

abbrev pub told : Option ℕ → Seen → Result Pack Refusal
told head seen = told_by head seen seen.left

-- Block 1 of a device whose volume's entry holds has been read.
pub record Begun (d : Device) (counts : Counts) (block : List ℕ) : Type 0 where
  pub first : block ≡ block_at d 1
  pub holds : volume_holds (size_of d) (entry_at d 0) ≡ true
  pub blocks : counts.blocks ≡ pack_blocks d
  pub directory : counts.directory ≡ directory_blocks d
