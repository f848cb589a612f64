-- The bit of the attribute byte that stands for each attribute. Assumes nothing.
use Rattle.std.specs.Prelude.{ℕ}
use Rattle.entry.specs.declared.attributes.Attribute.{Attribute}
use Rattle.entry.specs.declared.attributes.Attribute.TheVariants.{Locked, WriteProtected, ReadProtected, User, System, Deleted, ExecuteProtected, BlocksLeft}

abbrev pub bit_of : Attribute → ℕ
bit_of Locked = 7
bit_of WriteProtected = 6
bit_of ReadProtected = 5
bit_of User = 4
bit_of System = 3
bit_of Deleted = 2
bit_of ExecuteProtected = 1
bit_of BlocksLeft = 0
