-- How a command's answer stands to the definition of what it prints. Assumes nothing.
use Rattle.std.specs.Prelude.{◌≡◌, ℕ, List, Ok, Err, string_bytes, Result, String}
use Rattle.std.specs.declared.alloc.Global.{Global}
use Rattle.refusal.specs.declared.Refusal.{Refusal}
use Rattle.listing.specs.declared.failure.Failure.{Failure}
use Rattle.listing.specs.declared.failure.Failure.TheVariants.{Memory, Refused}

-- The text is the one defined, and a refusal is the one defined. Where memory fails there is no text, and nothing is
-- said of what it would have been.
abbrev pub Answers : Result (String Global) Failure → Result (List ℕ) Refusal → Type 0
Answers (Ok text) defined = Ok (string_bytes text) ≡ defined
Answers (Err Memory) defined = Unit {0}
Answers (Err (Refused refusal)) defined = Err refusal ≡ defined
