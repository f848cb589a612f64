use Rattle.sectors.specs.Records.{disk-interleaves, interleaves}
use Rattle.sectors.proofs.interleave.record_of.Goals as goal

pub returns-clause-theorem : goal.returns-clause-theorem
returns-clause-theorem c = disk-interleaves

pub returns-clause-general : goal.returns-clause-general
returns-clause-general c = interleaves
