-- What an entry is, by its number and its attributes. Assumes nothing.
--   Case, Shown   the four kinds; a kind with the characters of the entry's name
--   listed        what each answer of the code stands for
--   kind_of       the kind of the entry of a number in the directory block that holds it
use Rattle.std.specs.Prelude.{ℕ, cond, List, Some, None, Option, ◌==◌, nat_le}
use Rattle.names.specs.Names.{characters}
use Rattle.entry.specs.Fields.{attributes_of, bit, entry_in, name_of}
use Rattle.entry.specs.declared.kind.Kind.{Kind}
use Rattle.entry.specs.declared.kind.Kind.TheVariants.{Volume, Live, Deleted, BlocksLeft}

pub data Case : Type 0 where
  volume : Case
  live : Case
  deleted : Case
  blocks_left : Case

pub record Shown : Type 0 where
  pub case : Case
  pub name : List ℕ

abbrev pub listed : Kind → Shown
listed (Volume name) = record { case = volume; name = name.now }
listed (Live name) = record { case = live; name = name.now }
listed (Deleted name) = record { case = deleted; name = name.now }
listed (BlocksLeft name) = record { case = blocks_left; name = name.now }

-- Entry 0 is the volume. Entries 1 and 2, the boot block and the directory, have no kind. From 3 on, bit 0 makes the
-- BLOCKS LEFT entry, whatever the other bits say, else bit 2 a deleted file.
abbrev pub case_of : ℕ → ℕ → Option Case
case_of number attributes =
    cond (number == 0) (Some volume) (cond (nat_le number 2) None (Some
    (cond (bit 0 attributes) blocks_left (cond (bit 2 attributes) deleted live))))

abbrev pub named : List ℕ → Option Case → Option Shown
named bytes None = None
named bytes (Some c) = Some (record { case = c; name = characters (name_of bytes) })

abbrev pub kind_of : List ℕ → ℕ → Option Shown
kind_of block number =
    named (entry_in block number) (case_of number (attributes_of (entry_in block number)))
