-- Lines as calls of the model. Assumes nothing.
--   Read        what a line says: the length of the work blocks from here on, a call, or nothing readable
--   meaning     what each answer of the code stands for
--   read_line   what a line says while work blocks have a length; all buffers are zeros
--   ExpectsBy   a law: what is expected of a line that says nothing is the form of its first word
use Rattle.std.specs.Prelude.{◌≡◌, ℕ, List, replicate, Ok, Err, Result}
use Rattle.model.specs.Requests as model
use Rattle.requests.specs.Values.{meant}
use Rattle.console.specs.Fields.{fields}
use Rattle.console.specs.Forms.{Asked, asked, date, find, form_of, init, show, take_up, work}
use Rattle.console.specs.declared.calls.Line.{Line}
use Rattle.console.specs.declared.calls.Line.TheVariants.{Work, Call, Unreadable}
use Rattle.console.specs.declared.forms.Expected.{Expected}

pub data Read : Type 0 where
  sets_work : ℕ → Read
  calls : model.Request → Read
  unreadable : Expected → Read

abbrev pub meaning : Line → Read
meaning (Work len) = sets_work len
meaning (Call request) = calls (meant request)
meaning (Unreadable form) = unreadable form

abbrev pub requested : ℕ → Asked → Read
requested length (date year month day) = calls (model.set_date year month day)
requested length (init name directory blocks) = calls (model.initialise length name directory blocks)
requested length take_up = calls (model.take_up length)
requested length (find kind name len) = calls (model.find length kind name (replicate len 0))
requested length (show entry len) = calls (model.show length entry (replicate len 0))
requested length (work len) = sets_work len

abbrev pub or_unreadable : ℕ → Result Asked Expected → Read
or_unreadable length (Ok what) = requested length what
or_unreadable length (Err form) = unreadable form

abbrev pub read_line : ℕ → List ℕ → Read
read_line length line = or_unreadable length (asked (fields line))

abbrev pub ExpectsBy : List ℕ → Read → Type 0
ExpectsBy word (sets_work len) = Unit {0}
ExpectsBy word (calls request) = Unit {0}
ExpectsBy word (unreadable form) = form ≡ form_of word
