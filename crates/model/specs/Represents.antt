-- What it means that a unit and its device stand for a model, and what a call promises of that. Assumes nothing.
--   Represents    the state and the device are what the model describes
--   layout_byte   the byte that the layout gives for a pack, at a byte of a block, if it gives one
--   Laid          a device has, wherever the layout gives a byte, that byte, and else the byte of another device
--   Turn, Turns   what a call promises of each model that is represented when it comes
--   Decided       what initialise and take up promise of any state and device
use Rattle.std.specs.Prelude.{◌≡◌, ℕ, ◌+◌, ◌-◌, ◌*◌, ◌/◌, ◌%◌, ◌<◌, Bool, true, false, cond, ◌&&◌, List, [], ◌∷◌, ◌++◌, map, length, is_err, Some, None, Ok, Err, Option, Result, nat_le, nat_lt, slice_index, slice_index_or}
use Rattle.std.specs.Option.{unwrap_or}
use Rattle.refusal.specs.declared.Refusal.{Refusal}
use Rattle.blocks.specs.Devices.{Device, block_at, size_of}
use Rattle.entry.specs.Fields.{first_of}
use Rattle.directory.specs.Judgements.{judged as judged_device}
use Rattle.directory.specs.Layouts.{end_of}
use Rattle.directory.specs.declared.judgement.Pack.{Pack}
use Rattle.model.specs.Models.{File, Model, PackModel, model_of}
use Rattle.model.specs.Requests.{Reply, Request, find, initialise, set_date, show, take_up}
use Rattle.model.specs.Steps.{step}
use Rattle.model.specs.declared.state.State.{State}

-- The model is what state and device stand for, and a pack that is up follows the layout and is what the state knows
-- of it. Where others changed the pack that is up, that fails, and no model is represented.
pub record Represents (m : Model) (st : State) (d : Device) : Type 0 where
  pub model : m ≡ model_of st d
  pub judged : (pack : Pack) → st.pack ≡ Some pack → judged_device d 1024 ≡ Ok pack

-- The entries of a pack, from the volume's to the BLOCKS LEFT entry.
abbrev pub entries_of : PackModel → List (List ℕ)
entries_of p = p.volume ∷ (p.boot ∷ (p.table ∷ (map (λ (f : File). f.bytes) p.files ++ (p.left ∷ []))))

-- In a directory block: the entries' bytes; behind the last entry, and in the last ten bytes of a block, nothing.
abbrev pub entry_byte : List (List ℕ) → ℕ → ℕ → Option ℕ
entry_byte entries e i = cond (nat_lt i 1014 && nat_lt e (length entries)) (Some (slice_index (slice_index_or entries e []) (i % 26))) None

abbrev pub directory_byte : PackModel → ℕ → ℕ → Option ℕ
directory_byte p b i = entry_byte (entries_of p) (39 * (b - 1) + i / 26) i

-- In a file's room: the bytes that the file holds; behind these nothing.
abbrev pub held_byte : List ℕ → ℕ → Option ℕ
held_byte content k = cond (nat_lt k (length content)) (Some (slice_index content k)) None

abbrev pub room_byte : List File → ℕ → ℕ → Option ℕ
room_byte [] b i = None
room_byte (file ∷ files) b i =
    cond (nat_le (first_of file.bytes) b && nat_lt b (end_of file.bytes)) (held_byte file.content (1024 * (b - first_of file.bytes) + i)) (room_byte files b i)

abbrev pub layout_byte : PackModel → ℕ → ℕ → Option ℕ
layout_byte p b i = cond (nat_le 1 b && nat_le b p.directory) (directory_byte p b i) (room_byte p.files b i)

abbrev pub layout_byte_of : Result PackModel Refusal → ℕ → ℕ → Option ℕ
layout_byte_of (Ok p) b i = layout_byte p b i
layout_byte_of (Err refusal) b i = None

abbrev pub Laid : Model → Device → Device → Type 0
Laid m before after = (b i : ℕ) → b < size_of before → i < 1024 → slice_index (block_at after b) i ≡ unwrap_or (layout_byte_of m.pack b i) (slice_index (block_at before b) i)

-- Initialise clears the directory; it says by itself what the device is after it.
abbrev pub clears : Request → Bool
clears (set_date year month day) = false
clears (initialise work name directory blocks) = true
clears (take_up work) = false
clears (find work kind name buffer) = false
clears (show work entry buffer) = false

-- What a call promises of each model that is represented when it comes: the reply is the model's, state and device
-- afterwards represent the model after its step, a refusal changes no byte of the device, and a call that does not
-- clear the directory leaves the bytes that the layout gives, and else the bytes that were there.
pub record Turn (m : Model) (request : Request) (before : Device) (reply : Reply) (st : State) (after : Device) : Type 0 where
  pub replied : reply ≡ (step m request).reply
  pub represents : Represents (step m request).model st after
  pub refused : is_err reply.answer ≡ true → after ≡ before
  pub bytes : clears request ≡ false → Laid (step m request).model before after

abbrev pub Turns : State → Device → Request → Reply → State → Device → Type 0
Turns st d request reply st' d' = (m : Model) → Represents m st d → Turn m request d reply st' d'

-- What initialise and take up promise besides, of any device and any earlier state: the reply is decided, and a granted
-- one leaves a model represented.
pub record Decided (st : State) (d : Device) (request : Request) (reply : Reply) (st' : State) (d' : Device) : Type 0 where
  pub replied : reply ≡ (step (model_of st d) request).reply
  pub represents : is_err reply.answer ≡ false → Represents (step (model_of st d) request).model st' d'
  pub refused : is_err reply.answer ≡ true → d' ≡ d
