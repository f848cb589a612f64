-- The one lookup of the directory. Assumes nothing.
--   first_that                   the first of some entries that passes a test
--   is_blocks_left, is_deleted   what the attributes of an entry say of it, from entry 3 on
--   is_match                     an entry of a live file that a key says yes to
--   ends_at, said_at             the lookup ends at an entry; what it then answers
--   found_at                     what is found: an entry's number and bytes
--   lookup_reply                 what the lookup answers
--   IsFile, Match, FirstMatch    the files, those that are live and that a key says yes to, the first of these
--   LookupLaw                    what the answer says of the files
use Rattle.std.specs.Prelude.{◌≡◌, ℕ, zero, suc, ◌+◌, ◌-◌, ◌*◌, ◌<◌, ◌≤◌, Bool, true, false, cond, not, ◌&&◌, ◌||◌, List, is_some, Some, None, Ok, Err, Option, Result}
use Rattle.refusal.specs.declared.Refusal.{Refusal}
use Rattle.blocks.specs.Devices.{Device, read_fault, refusal_of}
use Rattle.blocks.specs.declared.faults.Fault.{Fault}
use Rattle.entry.specs.Fields.{attributes_of, bit}
use Rattle.directory.specs.Entries.{entry_at, holder_of}
use Rattle.directory.specs.declared.lookups.Found.{Found}

-- The first of `count` entries from e on that passes the test.
abbrev pub first_that : (ℕ → Bool) → ℕ → ℕ → Option ℕ
first_that test e zero = None
first_that test e (suc count) = cond (test e) (Some e) (first_that test (e + 1) count)

abbrev pub is_blocks_left : List ℕ → Bool
is_blocks_left bytes = bit 0 (attributes_of bytes)

abbrev pub is_deleted : List ℕ → Bool
is_deleted bytes = bit 2 (attributes_of bytes)

-- Which files a lookup may give: the live ones that the key says yes to.
abbrev pub is_match : (List ℕ → Bool) → List ℕ → Bool
is_match fits bytes = not (is_deleted bytes) && fits bytes

-- The lookup ends at an entry whose block cannot be read (through a work block of some length), at the BLOCKS LEFT
-- entry, and at a match.
abbrev pub ends_at : (List ℕ → Bool) → Device → ℕ → ℕ → Bool
ends_at fits d len e = is_some (read_fault d (holder_of e) len) || (is_blocks_left (entry_at d e) || is_match fits (entry_at d e))

-- What is found: the number of an entry, and its bytes.
abbrev pub found_at : Device → ℕ → Found
found_at d e = record { number = e; entry = record { bytes = entry_at d e } }

abbrev pub said_at : Device → ℕ → Option Fault → Result (Option Found) Refusal
said_at d e None = cond (is_blocks_left (entry_at d e)) (Ok None) (Ok (Some (found_at d e)))
said_at d e (Some fault) = Err (refusal_of fault)

abbrev pub said : Device → ℕ → Option ℕ → Result (Option Found) Refusal
said d len None = Ok None
said d len (Some e) = said_at d e (read_fault d (holder_of e) len)

-- The entries are those of so many directory blocks, from entry 3 on: the volume, the boot block and the directory
-- have the three before it, and to their bits they might look like live files.
abbrev pub lookup_reply : (List ℕ → Bool) → Device → ℕ → ℕ → Result (Option Found) Refusal
lookup_reply fits d directory len = said d len (first_that (ends_at fits d len) 3 (39 * directory - 3))

-- A file of a directory of so many blocks: an entry from 3 on, with no BLOCKS LEFT entry up to it.
pub record IsFile (d : Device) (directory e : ℕ) : Type 0 where
  pub from : 3 ≤ e
  pub within : e < 39 * directory
  pub before : (f : ℕ) → 3 ≤ f → f ≤ e → is_blocks_left (entry_at d f) ≡ false

-- A live file with a yes.
pub record Match (fits : List ℕ → Bool) (d : Device) (directory e : ℕ) : Type 0 where
  pub file : IsFile d directory e
  pub live : is_deleted (entry_at d e) ≡ false
  pub fit : fits (entry_at d e) ≡ true

pub record FirstMatch (fits : List ℕ → Bool) (d : Device) (directory e : ℕ) : Type 0 where
  pub match : Match fits d directory e
  pub least : (f : ℕ) → Match fits d directory f → e ≤ f

-- The block of an entry cannot be read, and no match stands before that entry.
pub record Unread (fits : List ℕ → Bool) (d : Device) (directory len : ℕ) (refusal : Refusal) : Type 0 where
  pub entry : ℕ
  pub fault : Fault
  pub met : read_fault d (holder_of entry) len ≡ Some fault
  pub told : refusal ≡ refusal_of fault
  pub nothing : (f : ℕ) → Match fits d directory f → entry ≤ f

-- All blocks of the directory can be read.
abbrev pub Readable : Device → ℕ → ℕ → Type 0
Readable d directory len = (b : ℕ) → 1 ≤ b → b ≤ directory → read_fault d b len ≡ None

-- The answer is the first live file with a yes, or none, exactly if there is none; where a block cannot be read, that
-- is the answer only if nothing before it is.
pub record LookupLaw (fits : List ℕ → Bool) (d : Device) (directory len : ℕ) (reply : Result (Option Found) Refusal) : Type 0 where
  pub found : (f : Found) → reply ≡ Ok (Some f) → FirstMatch fits d directory f.number
  pub first : Readable d directory len → (e : ℕ) → FirstMatch fits d directory e → reply ≡ Ok (Some (found_at d e))
  pub none : reply ≡ Ok None → (e : ℕ) → Match fits d directory e → ⊥
  pub only : Readable d directory len → ((e : ℕ) → Match fits d directory e → ⊥) → reply ≡ Ok None
  pub refused : (refusal : Refusal) → reply ≡ Err refusal → Unread fits d directory len refusal
