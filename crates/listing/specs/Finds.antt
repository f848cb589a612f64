-- Finding a live file of a pack by its name. Assumes nothing.
--   live, named         a live file that a name fits, and the first one
--   by_whole, by_stem   the first live file that a name fits, taken as a whole name or as a stem
--   looked_up           the file by its whole name or, where none fits, by its stem; or why there is none
--   found_text          what the find command prints
use Rattle.std.specs.Prelude.{ℕ, ◌-◌, Bool, cond, not, ◌&&◌, ◌||◌, List, ◌++◌, Some, None, Ok, Err, codes, Option, Result}
use Rattle.refusal.specs.declared.Refusal.{Refusal}
use Rattle.refusal.specs.declared.Refusal.TheVariants.{BadName, NoSuchFile}
use Rattle.blocks.specs.Devices.{Device}
use Rattle.names.specs.Names.{fits_stem, fits_whole, is_stem, is_whole}
use Rattle.entry.specs.Fields.{name_of}
use Rattle.lines.specs.Rows.{row_text}
use Rattle.listing.specs.Loads.{loaded, then}
use Rattle.listing.specs.Walks.{Found, directory_walked, first_that, entry_at, is_deleted}
use Rattle.listing.specs.declared.finds.Fit.{Fit}
use Rattle.listing.specs.declared.finds.Fit.TheVariants.{Whole, Stem}
use Rattle.listing.specs.declared.finds.Match.{Match}

-- A live file that a name fits, by what it is for a name to fit.
abbrev pub live : (List ℕ → List ℕ → Bool) → List ℕ → List ℕ → Bool
live fits name bytes = not (is_deleted bytes) && fits name (name_of bytes)

-- The first live file of a directory that a name fits, if the name keeps its rule.
abbrev pub named : Bool → (List ℕ → List ℕ → Bool) → List ℕ → ℕ → List ℕ → Result (Option ℕ) Refusal
named kept fits bytes left given = cond kept (Ok (first_that (live fits given) bytes 3 (left - 3))) (Err BadName)

abbrev pub live_whole : List ℕ → List ℕ → Bool
live_whole name bytes = live fits_whole name bytes

abbrev pub live_stem : List ℕ → List ℕ → Bool
live_stem stem bytes = live fits_stem stem bytes

abbrev pub by_whole : List ℕ → ℕ → List ℕ → Option ℕ
by_whole bytes left given = cond (is_whole given) (first_that (live_whole given) bytes 3 (left - 3)) None

abbrev pub by_stem : List ℕ → ℕ → List ℕ → Option ℕ
by_stem bytes left given = cond (is_stem given) (first_that (live_stem given) bytes 3 (left - 3)) None

abbrev pub whole_first : Option ℕ → Option ℕ → Result Match Refusal
whole_first (Some e) stem = Ok (record { number = e; fit = Whole })
whole_first None (Some e) = Ok (record { number = e; fit = Stem })
whole_first None None = Err NoSuchFile

abbrev pub looked_up : List ℕ → ℕ → List ℕ → Result Match Refusal
looked_up bytes left given = cond (is_whole given || is_stem given) (whole_first (by_whole bytes left given) (by_stem bytes left given)) (Err BadName)

abbrev pub fit_text : Fit → List ℕ
fit_text Whole = codes "Found by its whole name."
fit_text Stem = codes "Found by its stem; no live file has that whole name."

abbrev pub match_text : List ℕ → Result Match Refusal → Result (List ℕ) Refusal
match_text bytes (Ok m) = Ok (row_text m.number (entry_at bytes m.number) ++ (codes "\n" ++ (fit_text m.fit ++ codes "\n")))
match_text bytes (Err refusal) = Err refusal

abbrev pub found : List ℕ → List ℕ → Result Found Refusal → Result (List ℕ) Refusal
found bytes given (Ok walk) = match_text bytes (looked_up bytes walk.left given)
found bytes given (Err refusal) = Err refusal

abbrev pub found_text : Device → List ℕ → Result (List ℕ) Refusal
found_text d given = then (loaded d) (λ read. found read.bytes given (directory_walked read.bytes read.blocks))
