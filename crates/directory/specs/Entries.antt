-- Where an entry of the directory stands on a device. Assumes nothing.
--   holder_of                    the block that holds an entry
--   entry_at                     the 26 bytes of an entry
--   put_entry                    the device with other bytes in the place of an entry
--   WorkBlock                    the caller's block through which blocks are read and written, before and after
--   entry_read                   what reading an entry replies
--   entry_fault, entry_written   why writing one is refused, if it is, and the device after it
--   heard_as                     what a device replied, as the unit's caller hears it
--   EntryLaws                    what putting an entry changes and what it does not
use Rattle.std.specs.Prelude.{◌≡◌, ℕ, ◌+◌, ◌*◌, ◌/◌, ◌%◌, ◌<◌, ◌≤◌, ◌⊎◌, List, length, Some, None, Ok, Err, Option, Result, ◌≢◌, slice_index, slice_set}
use Rattle.std.specs.Option.{option_or}
use Rattle.refusal.specs.declared.Refusal.{Refusal}
use Rattle.blocks.specs.Devices.{Device, block_at, read_fault, refusal_of, size_of, write_fault}
use Rattle.blocks.specs.declared.faults.Fault.{Fault}
use Rattle.entry.specs.Fields.{entry_in, put_in}
use Rattle.entry.specs.declared.fields.Entry.{Entry}

-- Entry e is the (e mod 39)th of block 1 + e ÷ 39.
abbrev pub holder_of : ℕ → ℕ
holder_of e = 1 + e / 39

abbrev pub entry_at : Device → ℕ → List ℕ
entry_at d e = entry_in (block_at d (holder_of e)) e

abbrev pub put_entry : Device → ℕ → List ℕ → Device
put_entry d e bytes = record {
  blocks = slice_set d.blocks (holder_of e) (put_in (block_at d (holder_of e)) e bytes);
  marks = d.marks;
  tab = d.tab;
}

-- What the work block holds after a call is not decided. Its length stays.
abbrev pub WorkBlock : List ℕ → List ℕ → Type 0
WorkBlock before after = length after ≡ length before

-- An entry is read by reading its block through a work block of some length.
abbrev pub entry_or : List ℕ → Option Fault → Result Entry Refusal
entry_or bytes None = Ok (record { bytes = bytes })
entry_or bytes (Some fault) = Err (refusal_of fault)

abbrev pub entry_read : Device → ℕ → ℕ → Result Entry Refusal
entry_read d e len = entry_or (entry_at d e) (read_fault d (holder_of e) len)

-- It is written by reading its block, changing it, and writing it back.
abbrev pub entry_fault : Device → ℕ → ℕ → Option Fault
entry_fault d e len = option_or (read_fault d (holder_of e) len) (write_fault d (holder_of e) len)

-- The device after it: the entry is new, or nothing is where it is refused.
abbrev pub put_unless : Option Fault → Device → ℕ → List ℕ → Device
put_unless None d e bytes = put_entry d e bytes
put_unless (Some fault) d e bytes = d

abbrev pub entry_written : Device → ℕ → ℕ → List ℕ → Device
entry_written d e len bytes = put_unless (entry_fault d e len) d e bytes

-- What a device replied, as the unit's caller hears it.
abbrev pub heard_as : Result (Unit {0}) Fault → Result (Unit {0}) Refusal
heard_as (Ok done) = Ok done
heard_as (Err fault) = Err (refusal_of fault)

-- What putting 26 bytes in the place of entry e does to a device whose blocks have 1,024 bytes, where it has the
-- block that holds e: that entry is new; every other entry, every other byte of its block and every other block is as
-- it was, and so are the size, the marks and the tab.
pub record EntryLaws : Type 0 where
  pub itself : (d : Device) (e : ℕ) (bytes : List ℕ) → holder_of e < size_of d → length (block_at d (holder_of e)) ≡ 1024 → length bytes ≡ 26
      → entry_at (put_entry d e bytes) e ≡ bytes
  pub others : (d : Device) (e f : ℕ) (bytes : List ℕ) → holder_of e < size_of d → length (block_at d (holder_of e)) ≡ 1024 → length bytes ≡ 26
      → (f ≢ e) → entry_at (put_entry d e bytes) f ≡ entry_at d f
  pub bytes : (d : Device) (e i : ℕ) (new : List ℕ) → holder_of e < size_of d → length (block_at d (holder_of e)) ≡ 1024 → length new ≡ 26
      → (i < 26 * (e % 39)) ⊎ (26 * (e % 39) + 26 ≤ i) → slice_index (block_at (put_entry d e new) (holder_of e)) i ≡ slice_index (block_at d (holder_of e)) i
  pub blocks : (d : Device) (e b : ℕ) (bytes : List ℕ) → (b ≢ holder_of e) → block_at (put_entry d e bytes) b ≡ block_at d b
  pub size : (d : Device) (e : ℕ) (bytes : List ℕ) → size_of (put_entry d e bytes) ≡ size_of d
  pub marks : (d : Device) (e : ℕ) (bytes : List ℕ) → (put_entry d e bytes).marks ≡ d.marks
  pub tab : (d : Device) (e : ℕ) (bytes : List ℕ) → (put_entry d e bytes).tab ≡ d.tab
