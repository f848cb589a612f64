-- The walk through a directory whose blocks were read. Assumes nothing.
--   entry_at           the 26 bytes of an entry, where the bytes are those of the directory's blocks
--   first_that         the first entry of some that passes a test
--   IsFirst            the same, of a test that is known by what it tells of each entry
--   Found              what a walk learns of a directory: its blocks, and the number of its BLOCKS LEFT entry
--   directory_walked   the number of the BLOCKS LEFT entry, or why the directory cannot be walked
use Rattle.std.specs.Prelude.{ℕ, zero, suc, ◌+◌, ◌-◌, ◌*◌, ◌/◌, ◌<◌, ◌≤◌, Bool, true, false, cond, not, ◌&&◌, List, is_some, unwrap_or, IfSome, Some, None, Ok, Err, Option, Result}
use Rattle.refusal.specs.declared.Refusal.{Refusal}
use Rattle.refusal.specs.declared.Refusal.TheVariants.{BrokenLayout}
use Rattle.entry.specs.Fields.{attributes_of, bit, entry_in, last_of, used_of}
use Rattle.parts.specs.Parts.{part}
use Rattle.entry.specs.Lengths.{length_of}
use Rattle.entry.specs.declared.fields.Entry.{Entry}

-- A block of some bytes.
abbrev pub block : List ℕ → ℕ → List ℕ
block bytes b = part (1024 * b) 1024 bytes

-- Entry e is the (e mod 39)th of the directory's block e ÷ 39, the first being 0.
abbrev pub entry_at : List ℕ → ℕ → List ℕ
entry_at bytes e = entry_in (block bytes (e / 39)) e

-- The first of `count` entries from e on that passes the test.
abbrev pub first_that : (List ℕ → Bool) → List ℕ → ℕ → ℕ → Option ℕ
first_that test bytes e zero = None
first_that test bytes e (suc count) = cond (test (entry_at bytes e)) (Some e) (first_that test bytes (e + 1) count)

abbrev pub entry_of : List ℕ → Entry
entry_of bytes = record { bytes = bytes }

-- If there is one, it lies between and passes; none before it does.
pub record IsFirst (Tells : List ℕ → Bool → Type 0) (bytes : List ℕ) (from to : ℕ) (first : Option ℕ) : Type 0 where
  pub passes : IfSome first (λ e. (from ≤ e) × (e < to) × Tells (entry_at bytes e) true)
  pub before : (k : ℕ) → k < unwrap_or first to → from ≤ k → Tells (entry_at bytes k) false

abbrev pub is_left : List ℕ → Bool
is_left bytes = bit 0 (attributes_of bytes)

abbrev pub is_deleted : List ℕ → Bool
is_deleted bytes = bit 2 (attributes_of bytes)

-- A live file whose used and last are no pair that a length has.
abbrev pub is_unreadable : List ℕ → Bool
is_unreadable bytes = not (is_deleted bytes) && not (is_some (length_of (used_of bytes) (last_of bytes)))

pub record Found : Type 0 where
  pub directory : ℕ
  pub left : ℕ

-- Every live file before the BLOCKS LEFT entry has a length, or the first that has none is at fault.
abbrev pub files_walked : ℕ → ℕ → Option ℕ → Result Found Refusal
files_walked directory left None = Ok (record { directory = directory; left = left })
files_walked directory left (Some e) = Err (BrokenLayout e)

-- There is a BLOCKS LEFT entry, or the end of the directory is at fault.
abbrev pub left_walked : List ℕ → ℕ → Option ℕ → Result Found Refusal
left_walked bytes directory None = Err (BrokenLayout (39 * directory))
left_walked bytes directory (Some left) = files_walked directory left (first_that is_unreadable bytes 3 (left - 3))

abbrev pub directory_walked : List ℕ → ℕ → Result Found Refusal
directory_walked bytes directory = left_walked bytes directory (first_that is_left bytes 3 (39 * directory - 3))
