-- What a line asks for. Assumes nothing.
--   Asked           what a line can ask for
--   asked           what a line of these fields asks for, or what is expected of it instead
--   form_of         the form that a line has to have, by its first word
--   in_form         what the fields behind the first word ask for, if they have that form
--   expected_text   the form in words
use Rattle.std.specs.Prelude.{ℕ, cond, List, [], ◌∷◌, length, Some, None, Ok, Err, codes, Option, Result, ◌==◌}
use Rattle.std.specs.Str.{bytes_eq}
use Rattle.model.specs.declared.state.NameKind.{NameKind}
use Rattle.model.specs.declared.state.NameKind.TheVariants.{Whole, Stem}
use Rattle.console.specs.Fields.{at}
use Rattle.console.specs.Numbers.{number_of}
use Rattle.console.specs.Titles.{name_bytes, name_of}
use Rattle.console.specs.declared.forms.Asked.{Asked as AskedFor}
use Rattle.console.specs.declared.forms.Asked.TheVariants.{Date, Init, TakeUp, Find, Show, Work}
use Rattle.console.specs.declared.forms.Expected.{Expected}
use Rattle.console.specs.declared.forms.Expected.TheVariants.{Date as DateForm, Init as InitForm, TakeUp as TakeUpForm, Find as FindForm, Show as ShowForm, Work as WorkForm, Command}

pub data Asked : Type 0 where
  -- year, month, day
  date : ℕ → ℕ → ℕ → Asked
  -- volume name, directory blocks, blocks
  init : List ℕ → ℕ → ℕ → Asked
  take_up : Asked
  -- kind of name, name, length of the buffer
  find : NameKind → List ℕ → ℕ → Asked
  -- entry, length of the buffer
  show : ℕ → ℕ → Asked
  -- length of the work blocks from here on
  work : ℕ → Asked

abbrev pub stands_for : AskedFor → Asked
stands_for (Date year month day) = date year month day
stands_for (Init name directory blocks) = init (name_bytes name) directory blocks
stands_for TakeUp = take_up
stands_for (Find kind name len) = find kind (name_bytes name) len
stands_for (Show entry len) = show entry len
stands_for (Work len) = work len

abbrev pub understood : Result AskedFor Expected → Result Asked Expected
understood (Ok what) = Ok (stands_for what)
understood (Err form) = Err form

-- What follows from a part that is given; nothing where it is not.
abbrev pub given : {A B : Type 0} → Option A → (A → Option B) → Option B
given None next = None
given (Some part) next = next part

abbrev pub date_of : List ℕ → List ℕ → List ℕ → Option Asked
date_of year month day = given (number_of year) (λ y. given (number_of month) (λ m. given (number_of day) (λ d. Some (date y m d))))

abbrev pub init_of : List ℕ → List ℕ → List ℕ → Option Asked
init_of name directory blocks = given (name_of name) (λ v. given (number_of directory) (λ d. given (number_of blocks) (λ n. Some (init v d n))))

abbrev pub kind_of : List ℕ → Option NameKind
kind_of word = cond (bytes_eq word (codes "whole")) (Some Whole) (cond (bytes_eq word (codes "stem")) (Some Stem) None)

abbrev pub find_of : List ℕ → List ℕ → List ℕ → Option Asked
find_of kind name len = given (kind_of kind) (λ k. given (name_of name) (λ v. given (number_of len) (λ n. Some (find k v n))))

abbrev pub show_of : List ℕ → List ℕ → Option Asked
show_of entry len = given (number_of entry) (λ e. given (number_of len) (λ n. Some (show e n)))

abbrev pub work_of : List ℕ → Option Asked
work_of len = given (number_of len) (λ n. Some (work n))

abbrev pub form_of : List ℕ → Expected
form_of word =
    cond (bytes_eq word (codes "date")) DateForm (cond (bytes_eq word (codes "init")) InitForm
    (cond (bytes_eq word (codes "takeup")) TakeUpForm (cond (bytes_eq word (codes "find")) FindForm
    (cond (bytes_eq word (codes "show")) ShowForm (cond (bytes_eq word (codes "work")) WorkForm Command)))))

-- How many fields a form has behind its first word.
abbrev pub fields_in : Expected → ℕ
fields_in DateForm = 3
fields_in InitForm = 3
fields_in TakeUpForm = 0
fields_in FindForm = 3
fields_in ShowForm = 2
fields_in WorkForm = 1
fields_in Command = 0

-- What so many fields ask for; a form takes no more of the three than it has.
abbrev pub read_as : Expected → List ℕ → List ℕ → List ℕ → Option Asked
read_as DateForm one two three = date_of one two three
read_as InitForm one two three = init_of one two three
read_as TakeUpForm one two three = Some take_up
read_as FindForm one two three = find_of one two three
read_as ShowForm one two three = show_of one two
read_as WorkForm one two three = work_of one
read_as Command one two three = None

abbrev pub in_form : Expected → List (List ℕ) → Option Asked
in_form form fields = cond (length fields == fields_in form) (read_as form (at 0 fields) (at 1 fields) (at 2 fields)) None

abbrev pub or_expected : Expected → Option Asked → Result Asked Expected
or_expected form None = Err form
or_expected form (Some what) = Ok what

-- A line has a first field, be it an empty one.
abbrev pub asked : List (List ℕ) → Result Asked Expected
asked [] = Err Command
asked (word ∷ fields) = or_expected (form_of word) (in_form (form_of word) fields)

abbrev pub expected_text : Expected → List ℕ
expected_text DateForm = codes "date Y M D"
expected_text InitForm = codes "init NAME D N"
expected_text TakeUpForm = codes "takeup"
expected_text FindForm = codes "find whole NAME LEN or find stem NAME LEN"
expected_text ShowForm = codes "show ENTRY LEN"
expected_text WorkForm = codes "work LEN"
expected_text Command = codes "date, init, takeup, find, show or work"
