-- What a maker of devices hands back. Assumes nothing.
--   out_of_range   what was given, refused for its range
use Rattle.refusal.specs.declared.Refusal.TheVariants.{OutOfRange}
use Rattle.blocks.specs.declared.rejected.Rejected.{Rejected}

abbrev pub out_of_range : {T : Type 0} → T → Rejected T
out_of_range given = record { refusal = OutOfRange; given = given }
