-- Whole lists of calls, on the model and on the device. Assumes nothing.
--   answers, last_model   the replies to a list of calls, and the model after it
--   device_after          the device after a call, from the model and the device before it
--   Origin                what a run counts from
--   Accounts              what holds of a pack, counted from an origin
use Rattle.std.specs.Prelude.{◌≡◌, ℕ, ◌+◌, ◌<◌, ◌≤◌, Bool, true, false, cond, List, [], ◌∷◌, length, is_err, Ok, slice_index_or}
use Rattle.blocks.specs.Devices.{Device, block_at}
use Rattle.entry.specs.Fields.{first_of, room_of}
use Rattle.directory.specs.Layouts.{end_of}
use Rattle.model.specs.Fresh.{initialised}
use Rattle.model.specs.Models.{File, Model, PackModel}
use Rattle.model.specs.Represents.{entries_of}
use Rattle.model.specs.Requests.{Reply, Request, find, initialise, set_date, show, take_up}
use Rattle.model.specs.Steps.{files_of, step}

abbrev pub answers : Model → List Request → List Reply
answers m [] = []
answers m (request ∷ rest) = (step m request).reply ∷ answers (step m request).model rest

abbrev pub last_model : Model → List Request → Model
last_model m [] = m
last_model m (request ∷ rest) = last_model (step m request).model rest

abbrev pub is_refused : Model → Request → Bool
is_refused m request = is_err (step m request).reply.answer

-- Of the calls that there are, only a granted initialise changes the device.
abbrev pub device_after : Model → Device → Request → Device
device_after m d (set_date year month day) = d
device_after m d (initialise work name directory blocks) = cond (is_refused m (initialise work name directory blocks)) d (initialised d name directory blocks m.date)
device_after m d (take_up work) = d
device_after m d (find work kind name buffer) = d
device_after m d (show work entry buffer) = d

abbrev pub last_device : Model → Device → List Request → Device
last_device m d [] = d
last_device m d (request ∷ rest) = last_device (step m request).model (device_after m d request) rest

-- The blocks of some files.
abbrev pub rooms : List File → ℕ
rooms [] = 0
rooms (file ∷ files) = room_of file.bytes + rooms files

-- The device before the call from which a run counts, the files' rooms right after it, and the blocks asked since.
pub record Origin : Type 0 where
  pub device : Device
  pub rooms : ℕ
  pub asked : ℕ

-- The blocks that a call asked of the BLOCKS LEFT entry. None of the calls that there are asks any.
abbrev pub asked_by : Model → Request → ℕ
asked_by m (set_date year month day) = 0
asked_by m (initialise work name directory blocks) = 0
asked_by m (take_up work) = 0
asked_by m (find work kind name buffer) = 0
asked_by m (show work entry buffer) = 0

abbrev pub counted : Origin → ℕ → Origin
counted o asked = record { device = o.device; rooms = o.rooms; asked = o.asked + asked }

-- A granted initialise is a new origin.
abbrev pub origin_after : Model → Device → Origin → Request → Origin
origin_after m d o (initialise work name directory blocks) =
    cond (is_refused m (initialise work name directory blocks)) o (record { device = d; rooms = 0; asked = 0 })
origin_after m d o (set_date year month day) = counted o (asked_by m (set_date year month day))
origin_after m d o (take_up work) = counted o (asked_by m (take_up work))
origin_after m d o (find work kind name buffer) = counted o (asked_by m (find work kind name buffer))
origin_after m d o (show work entry buffer) = counted o (asked_by m (show work entry buffer))

abbrev pub last_origin : Model → Device → Origin → List Request → Origin
last_origin m d o [] = o
last_origin m d o (request ∷ rest) = last_origin (step m request).model (device_after m d request) (origin_after m d o request) rest

-- A block lies in the room of an entry.
pub record Lies (bytes : List ℕ) (b : ℕ) : Type 0 where
  pub low : first_of bytes ≤ b
  pub high : b < end_of bytes

-- The blocks of the pack are those of the boot block and the directory, the blocks left, the files' rooms at the origin
-- and the blocks asked since; no block lies in two of the entries from 1 to the BLOCKS LEFT entry; and a block outside
-- the directory and the files' rooms holds what it held before the call of the origin.
pub record Accounts (o : Origin) (p : PackModel) (d : Device) : Type 0 where
  pub balance : 1 + p.directory + room_of p.left + o.rooms + o.asked ≡ p.blocks
  pub apart : (e f b : ℕ) → 1 ≤ e → e < f → f < length (entries_of p) → Lies (slice_index_or (entries_of p) e []) b → Lies (slice_index_or (entries_of p) f []) b → ⊥
  pub untouched : (b : ℕ) → ((1 ≤ b) × (b ≤ p.directory) → ⊥) → ((k : ℕ) → k < length p.files → Lies (slice_index_or (entries_of p) (3 + k) []) b → ⊥)
      → block_at d b ≡ block_at o.device b

-- The pack is up, and all of that holds of it.
pub record Standing (m : Model) (d : Device) (o : Origin) : Type 0 where
  pub p : PackModel
  pub up : m.up ≡ true
  pub pack : m.pack ≡ Ok p
  pub accounts : Accounts o p d

-- What a run that begins with a take up counts from.
abbrev pub first_origin : Model → Device → Origin
first_origin m d = record { device = d; rooms = rooms (files_of m.pack); asked = 0 }

-- A call that begins a run: initialise or take up.
abbrev pub opens : Request → Bool
opens (set_date year month day) = false
opens (initialise work name directory blocks) = true
opens (take_up work) = true
opens (find work kind name buffer) = false
opens (show work entry buffer) = false
