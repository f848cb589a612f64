-- The abstract model of a pack unit: what a unit and its device stand for. Assumes nothing.
--   File          a file: the 26 bytes of its entry and, if it is live, the bytes that it holds
--   PackModel     a pack that follows the layout: its entries and its files
--   Model         the date, the size, marks and tab of the device, whether the pack is up, the pack, and the open files
--   pack_on       the pack on a device, or why it does not follow the layout
--   empty_state   the state of a unit that was just made
--   model_of      the model that a state and a device stand for
use Rattle.std.specs.Prelude.{ℕ, zero, suc, ◌+◌, ◌-◌, Bool, cond, List, [], ◌∷◌, ◌++◌, take, replicate, is_some, None, Ok, Err, Option, Result}
use Rattle.std.specs.Option.{option_map, unwrap_or}
use Rattle.refusal.specs.declared.Refusal.{Refusal}
use Rattle.blocks.specs.Devices.{Device, block_at, size_of}
use Rattle.blocks.specs.declared.faults.Mark.{Mark}
use Rattle.blocks.specs.declared.faults.Tab.{Tab}
use Rattle.entry.specs.Fields.{first_of, last_of, used_of}
use Rattle.entry.specs.Lengths.{length_of}
use Rattle.entry.specs.declared.date.Date.{Date}
use Rattle.entry.specs.declared.stamp.Stamp.{Stamp}
use Rattle.directory.specs.Entries.{entry_at}
use Rattle.directory.specs.Judgements.{judged}
use Rattle.directory.specs.Lookups.{is_deleted}
use Rattle.directory.specs.declared.judgement.Pack.{Pack}
use Rattle.model.specs.declared.state.OpenFile.{OpenFile}
use Rattle.model.specs.declared.state.State.{State}

-- The number of files that can be open at once.
abbrev pub open_files : ℕ
open_files = 2

-- All numbers are free.
abbrev pub free_table : List (Option OpenFile)
free_table = replicate open_files None

pub record File : Type 0 where
  pub bytes : List ℕ
  pub content : List ℕ

-- The blocks of the pack and of its directory; the entries of the volume, the boot block and the directory; the files
-- in the order of their entries, the first of which is entry 3; and the BLOCKS LEFT entry.
pub record PackModel : Type 0 where
  pub blocks : ℕ
  pub directory : ℕ
  pub volume : List ℕ
  pub boot : List ℕ
  pub table : List ℕ
  pub files : List File
  pub left : List ℕ

-- A pack that is not up is still on the device: it is what a take up would find.
pub record Model : Type 0 where
  pub date : Option Stamp
  pub size : ℕ
  pub marks : List Mark
  pub tab : Tab
  pub up : Bool
  pub pack : Result PackModel Refusal
  pub opened : List (Option OpenFile)

-- The bytes of some blocks, one after the other.
abbrev pub blocks_from : Device → ℕ → ℕ → List ℕ
blocks_from d b zero = []
blocks_from d b (suc count) = block_at d b ++ blocks_from d (b + 1) count

-- The bytes that a file holds: those of its length, from the blocks that it uses.
abbrev pub content_of : Device → List ℕ → List ℕ
content_of d bytes = take (unwrap_or (length_of (used_of bytes) (last_of bytes)) 0) (blocks_from d (first_of bytes) (used_of bytes))

abbrev pub file_of : Device → List ℕ → File
file_of d bytes = record { bytes = bytes; content = cond (is_deleted bytes) [] (content_of d bytes) }

-- The files of `count` entries from e on.
abbrev pub files_from : Device → ℕ → ℕ → List File
files_from d e zero = []
files_from d e (suc count) = file_of d (entry_at d e) ∷ files_from d (e + 1) count

abbrev pub pack_read : Device → Pack → PackModel
pack_read d pack = record {
  blocks = pack.blocks;
  directory = pack.directory;
  volume = entry_at d 0;
  boot = entry_at d 1;
  table = entry_at d 2;
  files = files_from d 3 (pack.left - 3);
  left = entry_at d pack.left;
}

abbrev pub pack_found : Device → Result Pack Refusal → Result PackModel Refusal
pack_found d (Ok pack) = Ok (pack_read d pack)
pack_found d (Err refusal) = Err refusal

abbrev pub pack_on : Device → Result PackModel Refusal
pack_on d = pack_found d (judged d 1024)

abbrev pub stamp_of_date : Date → Stamp
stamp_of_date date = record { year = date.year; month = date.month; day = date.day }

-- A unit that was just made: no pack up, no date, all numbers free.
abbrev pub empty_state : State
empty_state = record { pack = None; date = None; table = record { records = free_table } }

abbrev pub model_of : State → Device → Model
model_of st d = record {
  date = option_map stamp_of_date st.date;
  size = size_of d;
  marks = d.marks;
  tab = d.tab;
  up = is_some st.pack;
  pack = pack_on d;
  opened = st.table.records;
}
