-- What each refusal tells its caller. Assumes nothing.
--   listed     a refusal's number, layer and place
--   sentence   a refusal in words, for people
--   line       both on one line, as programs print them
use Rattle.std.specs.Prelude.{ℕ, ◌+◌, List, ◌++◌, codes, decimal}
use Rattle.refusal.specs.declared.Refusal.{Refusal}
use Rattle.refusal.specs.declared.Refusal.TheVariants.{OutOfRange, BadName, NoSuchFile, NoPack, BrokenLayout, BadBlock, WriteProtected}

-- The three numbers of a refusal. Layer 0 is the unit itself, layer 1 an entry of the directory, whose number is
-- the place, and layer 2 + depth the device or the layer of it that refused.
pub record Listed : Type 0 where
  pub number : ℕ
  pub layer : ℕ
  pub place : ℕ

abbrev pub listed : Refusal → Listed
listed OutOfRange = record { number = 17; layer = 0; place = 0 }
listed BadName = record { number = 14; layer = 0; place = 0 }
listed NoSuchFile = record { number = 5; layer = 0; place = 0 }
listed NoPack = record { number = 24; layer = 0; place = 0 }
listed (BrokenLayout entry) = record { number = 24; layer = 1; place = entry }
listed (BadBlock depth place) = record { number = 22; layer = 2 + depth; place = place }
listed (WriteProtected depth) = record { number = 32; layer = 2 + depth; place = 0 }

abbrev pub sentence : Refusal → List ℕ
sentence OutOfRange = codes "a number or a length is out of range"
sentence BadName = codes "the name breaks the rules of names"
sentence NoSuchFile = codes "there is no such file"
sentence NoPack = codes "no pack is up"
sentence (BrokenLayout entry) = codes "the pack does not follow the layout"
sentence (BadBlock depth place) = codes "a block is bad"
sentence (WriteProtected depth) = codes "the write-protect tab is on"

abbrev pub line : Refusal → List ℕ
line x = codes "refused " ++ (decimal (listed x).number ++ (codes " " ++ (decimal (listed x).layer ++ (codes " " ++ (decimal (listed x).place ++ (codes ": " ++ sentence x))))))
