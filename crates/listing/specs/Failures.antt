-- Why a command printed nothing, in words. Assumes nothing.
--   reason   what is said of a failure
use Rattle.std.specs.Prelude.{ℕ, List, codes}
use Rattle.refusal.specs.Refusals.{line}
use Rattle.listing.specs.declared.failure.Failure.{Failure}
use Rattle.listing.specs.declared.failure.Failure.TheVariants.{Memory, Refused}

abbrev pub reason : Failure → List ℕ
reason Memory = codes "there is not enough memory"
reason (Refused refusal) = line refusal
