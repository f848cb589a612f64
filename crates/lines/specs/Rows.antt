-- The line that is printed of a file. Assumes nothing.
--   letters     the attributes, a letter for each bit that is set and a dash for each that is not
--   name_text   a name with its type letter, the last character, set apart
--   date_text   a date, or a dash
--   row_text    the line of the entry with a number and its 26 bytes
use Rattle.std.specs.Prelude.{ℕ, ◌-◌, cond, List, ◌++◌, length, drop, Some, None, codes, decimal, Option}
use Rattle.names.specs.Names.{before_last, characters}
use Rattle.entry.specs.Fields.{attributes_of, bit, date_of, first_of, last_of, name_of, room_of, used_of}
use Rattle.entry.specs.Lengths.{length_of}
use Rattle.entry.specs.Stamps.{stamp_of, stamp_text}
use Rattle.entry.specs.declared.stamp.Stamp.{Stamp}
use Rattle.lines.specs.Texts.{escaped, left, right}

abbrev pub flag : ℕ → ℕ → List ℕ → List ℕ
flag k byte letter = cond (bit k byte) letter (codes "-")

-- Locked, write protected, read protected, user, system, deleted, execute protected, BLOCKS LEFT.
abbrev pub letters : ℕ → List ℕ
letters byte =
    flag 7 byte (codes "L") ++ (flag 6 byte (codes "W") ++ (flag 5 byte (codes "R") ++ (flag 4 byte (codes "U")
    ++ (flag 3 byte (codes "S") ++ (flag 2 byte (codes "D") ++ (flag 1 byte (codes "X") ++ flag 0 byte (codes "B")))))))

abbrev pub last_one : List ℕ → List ℕ
last_one cs = drop (length cs - 1) cs

abbrev pub name_text : List ℕ → List ℕ
name_text cs = left 10 (escaped (before_last cs)) ++ (codes " " ++ left 1 (escaped (last_one cs)))

abbrev pub state_text : ℕ → List ℕ
state_text attributes = cond (bit 2 attributes) (codes "deleted") (codes "live")

abbrev pub date_text : Option Stamp → List ℕ
date_text None = codes "-"
date_text (Some s) = stamp_text s

abbrev pub or_dash : Option ℕ → List ℕ
or_dash None = codes "-"
or_dash (Some n) = decimal n

-- A deleted file has no length to speak of.
abbrev pub length_text : List ℕ → List ℕ
length_text bytes = cond (bit 2 (attributes_of bytes)) (codes "-") (or_dash (length_of (used_of bytes) (last_of bytes)))

abbrev pub place_text : List ℕ → List ℕ
place_text bytes = right 5 (decimal (first_of bytes)) ++ (codes "  " ++ (right 5 (decimal (room_of bytes)) ++ (codes "  " ++ right 8 (length_text bytes))))

abbrev pub state_columns : List ℕ → List ℕ
state_columns bytes = left 7 (state_text (attributes_of bytes)) ++ (codes "  " ++ left 10 (letters (attributes_of bytes)))

abbrev pub row_text : ℕ → List ℕ → List ℕ
row_text number bytes =
    right 5 (decimal number) ++ (codes "  " ++ (name_text (characters (name_of bytes)) ++ (codes "  " ++ (state_columns bytes
    ++ (codes "  " ++ (place_text bytes ++ (codes "  " ++ date_text (stamp_of (date_of bytes)))))))))

abbrev pub headings : List ℕ
headings = codes "entry  name          state    attributes  first   room    length  date"
