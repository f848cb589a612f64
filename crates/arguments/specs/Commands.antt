-- The arguments of the program, and what it says when it cannot do what they ask. Assumes nothing.
--   Asked            what arguments ask for, or why they are no command
--   Name             the commands by their names; name_of: the command of a word
--   listed           what each answer of the code stands for
--   asked            what a list of arguments asks for
--   misuse_text      why arguments are no command, in words
--   complaint_text   why nothing is printed of a file, in words
use Rattle.std.specs.Prelude.{ℕ, cond, ◌||◌, List, [], ◌∷◌, ◌++◌, Ok, Err, codes, Result}
use Rattle.std.specs.Str.{bytes_eq}
use Rattle.arguments.specs.declared.commands.Command.{Command}
use Rattle.arguments.specs.declared.commands.Command.TheVariants.{Help, Catalogue, Find}
use Rattle.arguments.specs.declared.commands.Medium.{Medium}
use Rattle.arguments.specs.declared.commands.Medium.TheVariants.{Image, Disk}
use Rattle.arguments.specs.declared.commands.Misuse.{Misuse}
use Rattle.arguments.specs.declared.commands.Misuse.TheVariants.{UnknownCommand, CatalogueForm, FindForm}
use Rattle.listing.specs.declared.failure.Failure.{Failure}
use Rattle.listing.specs.Failures.{reason}

pub data Asked : Type 0 where
  help : Asked
  catalogue : Medium → List ℕ → Asked
  find : Medium → List ℕ → List ℕ → Asked
  misuse : Misuse → Asked

abbrev pub listed : Result Command Misuse → Asked
listed (Ok Help) = help
listed (Ok (Catalogue medium path)) = catalogue medium path.now
listed (Ok (Find medium path name)) = find medium path.now name.now
listed (Err why) = misuse why

-- A disk is asked for by the option `--disk` before the file.
abbrev pub medium_asked : List (List ℕ) → Medium
medium_asked [] = Image
medium_asked (word ∷ more) = cond (bytes_eq word (codes "--disk")) Disk Image

-- The arguments without that option.
abbrev pub places_asked : List (List ℕ) → List (List ℕ)
places_asked [] = []
places_asked (word ∷ more) = cond (bytes_eq word (codes "--disk")) more (word ∷ more)

abbrev pub catalogue_asked : Medium → List (List ℕ) → Asked
catalogue_asked medium [] = misuse CatalogueForm
catalogue_asked medium (path ∷ []) = catalogue medium path
catalogue_asked medium (path ∷ (next ∷ more)) = misuse CatalogueForm

abbrev pub find_asked : Medium → List (List ℕ) → Asked
find_asked medium [] = misuse FindForm
find_asked medium (path ∷ []) = misuse FindForm
find_asked medium (path ∷ (name ∷ [])) = find medium path name
find_asked medium (path ∷ (name ∷ (next ∷ more))) = misuse FindForm

-- The commands by their names.
pub data Name : Type 0 where
  HelpName : Name
  CatalogueName : Name
  FindName : Name
  Unknown : Name

abbrev pub name_of : List ℕ → Name
name_of word =
    cond (bytes_eq word (codes "--help") || (bytes_eq word (codes "-h") || bytes_eq word (codes "help"))) HelpName
    (cond (bytes_eq word (codes "catalogue")) CatalogueName (cond (bytes_eq word (codes "find")) FindName Unknown))

abbrev pub name_asked : Name → List (List ℕ) → Asked
name_asked HelpName rest = help
name_asked CatalogueName rest = catalogue_asked (medium_asked rest) (places_asked rest)
name_asked FindName rest = find_asked (medium_asked rest) (places_asked rest)
name_asked Unknown rest = misuse UnknownCommand

abbrev pub asked : List (List ℕ) → Asked
asked [] = help
asked (word ∷ rest) = name_asked (name_of word) rest

abbrev pub misuse_text : Misuse → List ℕ
misuse_text UnknownCommand = codes "there is no such command; the commands are catalogue and find, and pack --help explains them"
misuse_text CatalogueForm = codes "a catalogue is of one file: pack catalogue [--disk] FILE"
misuse_text FindForm = codes "a find takes a file and a name: pack find [--disk] FILE NAME"

abbrev pub complaint_text : List ℕ → Failure → List ℕ
complaint_text path failure = codes "pack: " ++ (path ++ (codes ": " ++ reason failure))
