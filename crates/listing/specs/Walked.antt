-- The walk as the code has it: the files of a directory, and what was found of them. Assumes nothing.
--   bytes_of   the bytes of a directory's blocks, one after the other
--   found_in   what the walk found of the files
--   walked     how the answer of the code's walk stands to what a walk finds
use Rattle.std.specs.Prelude.{ℕ, List, length, Ok, Err, vec_items, Result}
use Rattle.std.specs.List.{concat}
use Rattle.refusal.specs.declared.Refusal.{Refusal}
use Rattle.listing.specs.Walks.{Found}
use Rattle.listing.specs.declared.directory.Directory.{Directory}
use Rattle.listing.specs.declared.files.Files.{Files}

abbrev pub bytes_of : Directory → List ℕ
bytes_of d = concat (vec_items d.blocks)

abbrev pub found_in : Files → Found
found_in files = record { directory = length (vec_items files.directory.blocks); left = files.left }

abbrev pub walked : Result Files Refusal → Result Found Refusal
walked (Ok files) = Ok (found_in files)
walked (Err refusal) = Err refusal
