-- What each call replies, and what the model is after it: the first that applies of its refusals in order, else its
-- effect. Assumes nothing.
--   work_stage .. bad_stage   what refuses a call, a stage each
--   unless                    the refusal, if there is one, else the effect
--   first_file                the first of some files that passes a test
--   step                      the step of each call
use Rattle.std.specs.Prelude.{ℕ, zero, suc, ◌+◌, Bool, true, false, cond, ◌&&◌, List, [], ◌∷◌, ◌++◌, length, drop, Some, None, Ok, Err, Option, Result, ◌==◌, nat_eq, nat_le, slice_index_or}
use Rattle.std.specs.Option.{option_map, option_or}
use Rattle.refusal.specs.declared.Refusal.{Refusal}
use Rattle.refusal.specs.declared.Refusal.TheVariants.{BadName, NoPack, NoSuchFile, OutOfRange, WriteProtected}
use Rattle.blocks.specs.Devices.{mark_fault, refusal_of}
use Rattle.blocks.specs.declared.faults.Fault.{Fault}
use Rattle.blocks.specs.declared.faults.Mark.{Mark}
use Rattle.blocks.specs.declared.faults.Mark.TheVariants.{Sound}
use Rattle.blocks.specs.declared.faults.Tab.{Tab}
use Rattle.blocks.specs.declared.faults.Tab.TheVariants.{Off, On}
use Rattle.names.specs.Names.{fits_stem, fits_whole, is_stem, is_volume, is_whole}
use Rattle.entry.specs.Dates.{is_day}
use Rattle.entry.specs.Fields.{name_of}
use Rattle.entry.specs.declared.stamp.Stamp.{Stamp}
use Rattle.directory.specs.Lookups.{is_match}
use Rattle.directory.specs.declared.lookups.Found.{Found}
use Rattle.model.specs.Fresh.{fresh_pack}
use Rattle.model.specs.Models.{File, Model, PackModel, free_table}
use Rattle.model.specs.Requests.{Reply, Request, find, initialise, set_date, show, take_up}
use Rattle.model.specs.declared.state.NameKind.{NameKind}
use Rattle.model.specs.declared.state.NameKind.TheVariants.{Whole, Stem}

pub record Step : Type 0 where
  pub reply : Reply
  pub model : Model

-- What is refused, by stages that calls share.

-- 17: the work block is not 1,024 bytes.
abbrev pub work_stage : ℕ → Option Refusal
work_stage len = cond (len == 1024) None (Some OutOfRange)

-- 17: the buffer has no room for an entry.
abbrev pub buffer_stage : List ℕ → Option Refusal
buffer_stage buffer = cond (nat_le 26 (length buffer)) None (Some OutOfRange)

-- 17: the directory has not 1 to 127 blocks, or the pack not one more than that up to the size of the device.
abbrev pub shape_stage : ℕ → ℕ → ℕ → Option Refusal
shape_stage size directory blocks =
    cond ((nat_le 1 directory && nat_le directory 127) && (nat_le (directory + 1) blocks && nat_le blocks size)) None (Some OutOfRange)

-- 24: no pack is up.
abbrev pub pack_stage : Bool → Option Refusal
pack_stage up = cond up None (Some NoPack)

-- 14: a name breaks its rules.
abbrev pub name_stage : Bool → Option Refusal
name_stage keeps = cond keeps None (Some BadName)

-- 32: the tab is on.
abbrev pub tab_stage : Tab → Option Refusal
tab_stage Off = None
tab_stage (On depth) = Some (WriteProtected depth)

-- 22: one of `count` blocks from b on is bad; the first is told.
abbrev pub first_bad : List Mark → ℕ → ℕ → Option Fault
first_bad marks b zero = None
first_bad marks b (suc count) = option_or (mark_fault (slice_index_or marks b Sound)) (first_bad marks (b + 1) count)

abbrev pub bad_stage : List Mark → ℕ → Option Refusal
bad_stage marks directory = option_map refusal_of (first_bad marks 1 directory)

-- A refusal changes neither the model nor the buffer.
abbrev pub refused_step : Model → List ℕ → Refusal → Step
refused_step m buffer refusal = record { reply = record { answer = Err refusal; buffer = buffer }; model = m }

abbrev pub unless : Option Refusal → Model → List ℕ → Step → Step
unless None m buffer effect = effect
unless (Some refusal) m buffer effect = refused_step m buffer refusal

abbrev pub done_step : Model → Step
done_step m = record { reply = record { answer = Ok None; buffer = [] }; model = m }

-- Set date.
abbrev pub dated_model : Model → Stamp → Model
dated_model m day = record { date = Some day; size = m.size; marks = m.marks; tab = m.tab; up = m.up; pack = m.pack; opened = m.opened }

abbrev pub set_date_step : Model → ℕ → ℕ → ℕ → Step
set_date_step m year month day =
    cond (is_day year month day) (done_step (dated_model m (record { year = year; month = month; day = day }))) (refused_step m [] OutOfRange)

-- Initialise: a fresh pack is up, and all numbers are free.
abbrev pub initialise_refusal : Model → ℕ → List ℕ → ℕ → ℕ → Option Refusal
initialise_refusal m work name directory blocks =
    option_or (work_stage work) (option_or (shape_stage m.size directory blocks) (option_or (name_stage (is_volume name))
    (option_or (tab_stage m.tab) (bad_stage m.marks directory))))

abbrev pub up_model : Model → PackModel → Model
up_model m pack = record { date = m.date; size = m.size; marks = m.marks; tab = m.tab; up = true; pack = Ok pack; opened = free_table }

abbrev pub initialise_step : Model → ℕ → List ℕ → ℕ → ℕ → Step
initialise_step m work name directory blocks =
    unless (initialise_refusal m work name directory blocks) m [] (done_step (up_model m (fresh_pack name directory blocks m.date)))

-- Take up: the pack on the device is up, if it follows the layout; all numbers are free in either case.
abbrev pub down_model : Model → Model
down_model m = record { date = m.date; size = m.size; marks = m.marks; tab = m.tab; up = false; pack = m.pack; opened = free_table }

abbrev pub taken_up : Model → Result PackModel Refusal → Step
taken_up m (Ok pack) = done_step (up_model m pack)
taken_up m (Err refusal) = refused_step (down_model m) [] refusal

abbrev pub take_up_step : Model → ℕ → Step
take_up_step m work = unless (work_stage work) m [] (taken_up m m.pack)

-- Find and show: the bytes of an entry are put into the front of the buffer, and its number is replied.
abbrev pub files_of : Result PackModel Refusal → List File
files_of (Ok pack) = pack.files
files_of (Err refusal) = []

-- The first of some files that passes a test, where the first has entry e.
abbrev pub first_file : (ℕ → List ℕ → Bool) → ℕ → List File → Option Found
first_file test e [] = None
first_file test e (file ∷ files) = cond (test e file.bytes) (Some (record { number = e; entry = record { bytes = file.bytes } })) (first_file test (e + 1) files)

abbrev pub shown_step : Model → List ℕ → Option Found → Step
shown_step m buffer None = refused_step m buffer NoSuchFile
shown_step m buffer (Some file) =
    record { reply = record { answer = Ok (Some file.number); buffer = file.entry.bytes ++ drop 26 buffer }; model = m }

abbrev pub is_name : NameKind → List ℕ → Bool
is_name Whole name = is_whole name
is_name Stem name = is_stem name

abbrev pub fits_name : NameKind → List ℕ → List ℕ → Bool
fits_name Whole name bytes = fits_whole name (name_of bytes)
fits_name Stem name bytes = fits_stem name (name_of bytes)

abbrev pub find_refusal : Model → ℕ → NameKind → List ℕ → List ℕ → Option Refusal
find_refusal m work kind name buffer =
    option_or (work_stage work) (option_or (buffer_stage buffer) (option_or (pack_stage m.up) (name_stage (is_name kind name))))

abbrev pub find_step : Model → ℕ → NameKind → List ℕ → List ℕ → Step
find_step m work kind name buffer =
    unless (find_refusal m work kind name buffer) m buffer (shown_step m buffer (first_file (λ e bytes. is_match (fits_name kind name) bytes) 3 (files_of m.pack)))

abbrev pub show_refusal : Model → ℕ → List ℕ → Option Refusal
show_refusal m work buffer = option_or (work_stage work) (option_or (buffer_stage buffer) (pack_stage m.up))

-- Deleted files are shown too; the four entries that are no files are not.
abbrev pub show_step : Model → ℕ → ℕ → List ℕ → Step
show_step m work entry buffer =
    unless (show_refusal m work buffer) m buffer (shown_step m buffer (first_file (λ e bytes. nat_eq e entry) 3 (files_of m.pack)))

abbrev pub step : Model → Request → Step
step m (set_date year month day) = set_date_step m year month day
step m (initialise work name directory blocks) = initialise_step m work name directory blocks
step m (take_up work) = take_up_step m work
step m (find work kind name buffer) = find_step m work kind name buffer
step m (show work entry buffer) = show_step m work entry buffer
