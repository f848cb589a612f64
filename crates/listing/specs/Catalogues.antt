-- What the catalogue prints of a pack. Assumes nothing.
--   count_that       how many of some entries pass a test
--   rows_text        the lines of some files
--   catalogue_text   what it prints where the directory was walked
--   catalogued       the catalogue of the pack on a device, or why there is none
use Rattle.std.specs.Prelude.{ℕ, zero, suc, ◌+◌, ◌-◌, Bool, cond, List, [], ◌++◌, Some, None, Ok, Err, codes, decimal, Option, Result}
use Rattle.refusal.specs.declared.Refusal.{Refusal}
use Rattle.blocks.specs.Devices.{Device}
use Rattle.names.specs.Names.{characters}
use Rattle.entry.specs.Fields.{date_of, first_of, name_of, room_of, size_of}
use Rattle.entry.specs.Stamps.{stamp_of}
use Rattle.entry.specs.declared.stamp.Stamp.{Stamp}
use Rattle.lines.specs.Rows.{date_text, headings, row_text}
use Rattle.lines.specs.Texts.{counted, escaped}
use Rattle.listing.specs.Loads.{loaded, then}
use Rattle.listing.specs.Walks.{Found, directory_walked, entry_at, is_deleted}

abbrev pub count_that : (List ℕ → Bool) → List ℕ → ℕ → ℕ → ℕ
count_that test bytes e zero = 0
count_that test bytes e (suc count) = cond (test (entry_at bytes e)) 1 0 + count_that test bytes (e + 1) count

abbrev pub rows_text : List ℕ → ℕ → ℕ → List ℕ
rows_text bytes e zero = []
rows_text bytes e (suc count) = row_text e (entry_at bytes e) ++ (codes "\n" ++ rows_text bytes (e + 1) count)

abbrev pub dated_text : Option Stamp → List ℕ
dated_text None = codes "no date"
dated_text (Some s) = codes "dated " ++ date_text (Some s)

-- The volume: its name, its blocks, the blocks of its directory, and its date.
abbrev pub volume_text : ℕ → List ℕ → List ℕ
volume_text directory bytes =
    codes "Volume " ++ (escaped (characters (name_of bytes)) ++ (codes ": " ++ (counted (size_of bytes) (codes "block")
    ++ (codes ", " ++ (counted directory (codes "directory block") ++ (codes ", " ++ (dated_text (stamp_of (date_of bytes)) ++ codes ".")))))))

abbrev pub left_text : List ℕ → List ℕ
left_text bytes = codes "Blocks left: " ++ (decimal (room_of bytes) ++ (codes " from block " ++ (decimal (first_of bytes) ++ codes ".")))

-- What the walk did.
abbrev pub summary : List ℕ → List ℕ → ℕ → List ℕ
summary directory files deleted =
    codes "Read " ++ (directory ++ (codes " and found " ++ (files ++ (codes ", " ++ (decimal deleted ++ codes " of them deleted.")))))

abbrev pub summary_text : List ℕ → Found → List ℕ
summary_text bytes found =
    summary (counted found.directory (codes "directory block")) (counted (found.left - 3) (codes "file")) (count_that is_deleted bytes 3 (found.left - 3))

abbrev pub page : List ℕ → List ℕ → List ℕ → List ℕ → List ℕ
page volume rows left done =
    volume ++ (codes "\n" ++ (headings ++ (codes "\n" ++ (rows ++ (left ++ (codes "\n" ++ (done ++ codes "\n")))))))

abbrev pub catalogue_text : List ℕ → Found → List ℕ
catalogue_text bytes found =
    page (volume_text found.directory (entry_at bytes 0)) (rows_text bytes 3 (found.left - 3))
    (left_text (entry_at bytes found.left)) (summary_text bytes found)

abbrev pub printed : (Found → List ℕ) → Result Found Refusal → Result (List ℕ) Refusal
printed text (Ok found) = Ok (text found)
printed text (Err refusal) = Err refusal

abbrev pub catalogued : Device → Result (List ℕ) Refusal
catalogued d = then (loaded d) (λ read. printed (catalogue_text read.bytes) (directory_walked read.bytes read.blocks))
