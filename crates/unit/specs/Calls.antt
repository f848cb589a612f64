-- What the methods of a unit answer, from its state and its device. Assumes nothing.
--   done, number               what a call without and with a number replies
--   after                      the refusal of a stage, or what comes after it
--   refusal_on, Writable, Admitted   why initialise is refused, and what is known where it is not
--   fresh_state, Initialised   what initialise leaves
--   state_taken                what a unit knows after a take up
--   pack_asked                 the pack that find and show ask, or what refuses both
--   file_found, file_shown     the file that find and show are about, or why there is none
use Rattle.std.specs.Prelude.{◌≡◌, ℕ, ◌<◌, cond, ◌&&◌, List, [], Some, None, Ok, Err, Option, Result, nat_le, nat_lt}
use Rattle.std.specs.Option.{ok_or, option_map}
use Rattle.refusal.specs.declared.Refusal.{Refusal}
use Rattle.refusal.specs.declared.Refusal.TheVariants.{BadName, NoPack, NoSuchFile}
use Rattle.blocks.specs.Devices.{Device, size_of}
use Rattle.blocks.specs.declared.faults.Tab.TheVariants.{Off}
use Rattle.names.specs.Names.{name_field}
use Rattle.entry.specs.declared.fields.Entry.{Entry}
use Rattle.directory.specs.Entries.{entry_read}
use Rattle.directory.specs.Lookups.{lookup_reply}
use Rattle.directory.specs.declared.judgement.Pack.{Pack}
use Rattle.directory.specs.declared.lookups.Found.{Found}
use Rattle.model.specs.Fresh.{fresh_known, initialised, zeroed}
use Rattle.model.specs.Models.{empty_state, free_table, model_of, stamp_of_date}
use Rattle.model.specs.Requests.{Reply}
use Rattle.model.specs.Steps.{buffer_stage, first_bad, fits_name, initialise_refusal, is_name, work_stage}
use Rattle.model.specs.declared.state.NameKind.{NameKind}
use Rattle.model.specs.declared.state.State.{State}
use Rattle.unit.specs.declared.shape.Shape.{Shape}

abbrev pub done : Result (Unit {0}) Refusal → Reply
done (Ok _) = record { answer = Ok None; buffer = [] }
done (Err refusal) = record { answer = Err refusal; buffer = [] }

abbrev pub number : Result ℕ Refusal → List ℕ → Reply
number (Ok n) buffer = record { answer = Ok (Some n); buffer = buffer }
number (Err refusal) buffer = record { answer = Err refusal; buffer = buffer }

abbrev pub after : {X : Type 0} → Option Refusal → Result X Refusal → Result X Refusal
after None rest = rest
after (Some refusal) rest = Err refusal

-- The pack that find and show ask, or what refuses both.
abbrev pub pack_asked : State → ℕ → List ℕ → Result Pack Refusal
pack_asked st work buffer = after (work_stage work) (after (buffer_stage buffer) (ok_or st.pack NoPack))

abbrev pub with_pack : Result Pack Refusal → (Pack → Result Found Refusal) → Result Found Refusal
with_pack (Ok pack) next = next pack
with_pack (Err refusal) next = Err refusal

abbrev pub some_file : Result (Option Found) Refusal → Result Found Refusal
some_file (Ok None) = Err NoSuchFile
some_file (Ok (Some file)) = Ok file
some_file (Err refusal) = Err refusal

-- A name that keeps its rules, and a live file that fits it.
abbrev pub named : Device → NameKind → List ℕ → ℕ → Pack → Result (Option Found) Refusal
named d kind name len pack = cond (is_name kind name) (lookup_reply (fits_name kind name) d pack.directory len) (Err BadName)

abbrev pub file_found : State → Device → ℕ → NameKind → List ℕ → List ℕ → Result Found Refusal
file_found st d work kind name buffer = with_pack (pack_asked st work buffer) (λ pack. some_file (named d kind name work pack))

-- An entry that is a file's.
abbrev pub read_as : ℕ → Result Entry Refusal → Result Found Refusal
read_as entry (Ok bytes) = Ok (record { number = entry; entry = bytes })
read_as entry (Err refusal) = Err refusal

abbrev pub numbered : Device → ℕ → ℕ → Pack → Result Found Refusal
numbered d entry len pack = cond (nat_le 3 entry && nat_lt entry pack.left) (read_as entry (entry_read d entry len)) (Err NoSuchFile)

abbrev pub file_shown : State → Device → ℕ → ℕ → List ℕ → Result Found Refusal
file_shown st d work entry buffer = with_pack (pack_asked st work buffer) (numbered d entry work)

-- What a unit knows after a take up: all as it was where the work block is wrong, else no pack or the one that was
-- judged, and all numbers free.
abbrev pub pack_taken : Result Pack Refusal → Option Pack
pack_taken (Ok pack) = Some pack
pack_taken (Err refusal) = None

abbrev pub state_unless : Option Refusal → State → Option Pack → State
state_unless None st pack = record { pack = pack; date = st.date; table = record { records = free_table } }
state_unless (Some refusal) st pack = st

abbrev pub state_taken : State → ℕ → Result Pack Refusal → State
state_taken st work reply = state_unless (work_stage work) st (pack_taken reply)

-- Why initialise is refused on a device, if it is: whatever the unit knows, so as one that knows nothing.
abbrev pub refusal_on : Device → ℕ → List ℕ → ℕ → ℕ → Option Refusal
refusal_on d work name directory blocks = initialise_refusal (model_of empty_state d) work name directory blocks

-- All blocks of a directory, and block 1, can be written.
pub record Writable (d : Device) (directory : ℕ) : Type 0 where
  pub off : d.tab ≡ Off
  pub within : directory < size_of d
  pub sound : first_bad d.marks 1 directory ≡ None

-- Initialise is not refused, and this is the pack to be made.
pub record Admitted (d : Device) (work : ℕ) (name : List ℕ) (directory blocks : ℕ) (shape : Shape) : Type 0 where
  pub none : refusal_on d work name directory blocks ≡ None
  pub field : shape.name.field ≡ name_field name
  pub counted : shape.directory ≡ directory
  pub sized : shape.blocks ≡ blocks

-- A device with `count` blocks of zeros from b on.
abbrev pub cleared : Device → ℕ → ℕ → Device
cleared d b count = record { blocks = zeroed d.blocks b count; marks = d.marks; tab = d.tab }

-- What initialise leaves: granted, the fresh pack on the device and in the state; refused, all as it was.
abbrev pub fresh_state : State → ℕ → ℕ → State
fresh_state st directory blocks = record {
  pack = Some (fresh_known directory blocks);
  date = st.date;
  table = record { records = free_table };
}

abbrev pub Initialised : Result (Unit {0}) Refusal → State → Device → List ℕ → ℕ → ℕ → State → Device → Type 0
Initialised (Ok _) st d name directory blocks st' d' = (st' ≡ fresh_state st directory blocks) × (d' ≡ initialised d name directory blocks (option_map stamp_of_date st.date))
Initialised (Err refusal) st d name directory blocks st' d' = (st' ≡ st) × (d' ≡ d)
