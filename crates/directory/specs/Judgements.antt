-- The judgement whether a pack follows the layout. Assumes nothing.
--   Holds, holds       an entry keeps what the layout asks of it; the same as a test
--   blocks_left_at     the number of the BLOCKS LEFT entry, if there is one
--   layout_fault       the first entry at fault, if there is one
--   AtFault, Unended   an entry is the first at fault; the directory has no BLOCKS LEFT entry
--   LayoutLaw          how the fault stands to the layout
--   judged             what the judgement of a device answers
--   JudgementLaw       what the answer says of the device
use Rattle.std.specs.Prelude.{◌≡◌, ℕ, zero, suc, ◌+◌, ◌-◌, ◌*◌, ◌<◌, ◌≤◌, Bool, true, false, cond, not, ◌&&◌, ◌||◌, ◌⊎◌, List, [], ◌∷◌, is_some, Some, None, Ok, Err, Option, Result, ◌==◌, nat_le}
use Rattle.std.specs.Option.{option_or, unwrap_or}
use Rattle.std.specs.Str.{bytes_eq}
use Rattle.refusal.specs.declared.Refusal.{Refusal}
use Rattle.refusal.specs.declared.Refusal.TheVariants.{BrokenLayout, OutOfRange}
use Rattle.blocks.specs.Devices.{Device, read_fault, refusal_of, size_of}
use Rattle.blocks.specs.declared.faults.Fault.{Fault}
use Rattle.entry.specs.Fields.{check_bytes, check_of, directory_of, first_of, last_of, name_of, room_of, size_of as volume_size, used_of}
use Rattle.entry.specs.Lengths.{length_of}
use Rattle.directory.specs.Entries.{entry_at}
use Rattle.directory.specs.Layouts.{Follows, HasEtx, IsBlocksLeft, LiveFollows, Placed, VolumeFollows, directory_blocks, end_of, pack_blocks}
use Rattle.directory.specs.Lookups.{Readable, first_that, is_blocks_left, is_deleted}
use Rattle.directory.specs.declared.judgement.Pack.{Pack}

-- What the layout asks of the entry e, by itself and by the one before it. From 3 on, bit 0 tells the BLOCKS LEFT entry
-- from a file.
pub record Holds (d : Device) (e : ℕ) : Type 0 where
  pub volume : e ≡ 0 → VolumeFollows d
  pub boot : e ≡ 1 → Placed 0 1 (entry_at d 1)
  pub directory : e ≡ 2 → Placed 1 (directory_blocks d) (entry_at d 2)
  pub begins : 3 ≤ e → first_of (entry_at d e) ≡ end_of (entry_at d (e - 1))
  pub ends : 3 ≤ e → is_blocks_left (entry_at d e) ≡ true → end_of (entry_at d e) ≡ pack_blocks d
  pub named : 3 ≤ e → is_blocks_left (entry_at d e) ≡ false → HasEtx (name_of (entry_at d e))
  pub live : 3 ≤ e → is_blocks_left (entry_at d e) ≡ false → is_deleted (entry_at d e) ≡ false → LiveFollows (entry_at d e)

-- The same as tests.
abbrev pub has_etx : List ℕ → Bool
has_etx [] = false
has_etx (b ∷ rest) = b == 3 || has_etx rest

abbrev pub volume_holds : ℕ → List ℕ → Bool
volume_holds size bytes =
    nat_le 2 size && (bytes_eq (check_of bytes) check_bytes
    && (nat_le 1 (directory_of bytes) && (nat_le (directory_of bytes + 1) (volume_size bytes) && nat_le (volume_size bytes) size)))

abbrev pub is_placed : ℕ → ℕ → List ℕ → Bool
is_placed first room bytes = first_of bytes == first && room_of bytes == room

abbrev pub live_holds : List ℕ → Bool
live_holds bytes = nat_le (used_of bytes) (room_of bytes) && is_some (length_of (used_of bytes) (last_of bytes))

abbrev pub file_holds : List ℕ → Bool
file_holds bytes = has_etx (name_of bytes) && (is_deleted bytes || live_holds bytes)

-- An entry from 3 on in a pack of so many blocks, where the one before ends at block `end`.
abbrev pub later_holds : ℕ → ℕ → List ℕ → Bool
later_holds blocks end bytes =
    (first_of bytes == end) && cond (is_blocks_left bytes) (end_of bytes == blocks) (file_holds bytes)

abbrev pub holds : Device → ℕ → Bool
holds d e =
    cond (e == 0) (volume_holds (size_of d) (entry_at d 0)) (cond (e == 1) (is_placed 0 1 (entry_at d 1))
    (cond (e == 2) (is_placed 1 (directory_blocks d) (entry_at d 2)) (later_holds (pack_blocks d) (end_of (entry_at d (e - 1))) (entry_at d e))))

abbrev pub is_left_at : Device → ℕ → Bool
is_left_at d e = is_blocks_left (entry_at d e)

abbrev pub blocks_left_at : Device → Option ℕ
blocks_left_at d = first_that (is_left_at d) 3 (39 * directory_blocks d - 3)

abbrev pub is_broken : Device → ℕ → Bool
is_broken d e = not (holds d e)

-- Without a BLOCKS LEFT entry, what is at fault is the entry behind the last, whatever the files are like.
abbrev pub files_fault : Device → Option ℕ → Option ℕ
files_fault d None = Some (39 * directory_blocks d)
files_fault d (Some left) = first_that (is_broken d) 3 (left - 2)

abbrev pub layout_fault : Device → Option ℕ
layout_fault d = option_or (first_that (is_broken d) 0 3) (files_fault d (blocks_left_at d))

-- Entry e is the first that does not hold, and is not behind the BLOCKS LEFT entry.
pub record AtFault (d : Device) (e : ℕ) : Type 0 where
  pub breaks : Holds d e → ⊥
  pub before : (f : ℕ) → f < e → Holds d f
  pub reached : (e ≤ 2) ⊎ ((left : ℕ) × (IsBlocksLeft d left) × (e ≤ left))

-- Entries 0 to 2 hold, and there is no BLOCKS LEFT entry.
pub record Unended (d : Device) : Type 0 where
  pub head : (e : ℕ) → e ≤ 2 → Holds d e
  pub none : (e : ℕ) → IsBlocksLeft d e → ⊥

-- No fault exactly if the pack follows the layout; a fault at e exactly if e is the first entry at fault; a fault at
-- 39 × d, of d directory blocks, exactly if entries 0 to 2 hold and there is no BLOCKS LEFT entry.
pub record LayoutLaw (d : Device) : Type 0 where
  pub none : layout_fault d ≡ None → Follows d
  pub follows : Follows d → layout_fault d ≡ None
  pub fault : (e : ℕ) → layout_fault d ≡ Some e → AtFault d e ⊎ (Unended d × (e ≡ 39 * directory_blocks d))
  pub at_fault : (e : ℕ) → AtFault d e → layout_fault d ≡ Some e
  pub missing : 1 ≤ directory_blocks d → layout_fault d ≡ Some (39 * directory_blocks d) → Unended d
  pub unended : Unended d → layout_fault d ≡ Some (39 * directory_blocks d)

-- What is learnt of a pack that follows the layout.
abbrev pub pack_of : Device → ℕ → Pack
pack_of d left = record { blocks = pack_blocks d; directory = directory_blocks d; left = left; free = room_of (entry_at d left) }

-- (Where there is no fault, there is a BLOCKS LEFT entry.)
abbrev pub verdict : Device → Option ℕ → Result Pack Refusal
verdict d None = Ok (pack_of d (unwrap_or (blocks_left_at d) 0))
verdict d (Some e) = Err (BrokenLayout e)

-- The first of `count` blocks from b on that cannot be read, with the reason.
abbrev pub first_unread : Device → ℕ → ℕ → Option Fault
first_unread d b zero = None
first_unread d b (suc count) = option_or (read_fault d b 1024) (first_unread d (b + 1) count)

abbrev pub unless_fault : Option Fault → Result Pack Refusal → Result Pack Refusal
unless_fault None rest = rest
unless_fault (Some fault) rest = Err (refusal_of fault)

-- The work block is tested first. On a device of one block nothing is read. The volume's entry is tested before block 2
-- is read, the others when all of the directory is.
abbrev pub volume_judged : Device → Result Pack Refusal
volume_judged d =
    cond (volume_holds (size_of d) (entry_at d 0)) (unless_fault (first_unread d 2 (directory_blocks d - 1)) (verdict d (layout_fault d))) (Err (BrokenLayout 0))

abbrev pub judged : Device → ℕ → Result Pack Refusal
judged d len =
    cond (len == 1024) (cond (nat_le 2 (size_of d)) (unless_fault (read_fault d 1 1024) (volume_judged d)) (Err (BrokenLayout 0))) (Err OutOfRange)

-- What a granted judgement says: the pack follows the layout, its directory can be read, and this is what was learnt.
pub record Granted (d : Device) (pack : Pack) : Type 0 where
  pub follows : Follows d
  pub readable : Readable d (directory_blocks d) 1024
  pub learnt : pack ≡ pack_of d follows.left

-- With a work block of 1,024 bytes it is granted exactly where the directory can be read and the pack follows the
-- layout; a refusal by 24 is at the first entry at fault.
pub record JudgementLaw (d : Device) (len : ℕ) (reply : Result Pack Refusal) : Type 0 where
  pub granted : (pack : Pack) → reply ≡ Ok pack → Granted d pack
  pub grants : len ≡ 1024 → Readable d (directory_blocks d) 1024 → (f : Follows d) → reply ≡ Ok (pack_of d f.left)
  pub broken : (e : ℕ) → reply ≡ Err (BrokenLayout e) → layout_fault d ≡ Some e
