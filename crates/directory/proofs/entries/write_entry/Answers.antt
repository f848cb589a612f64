use Rattle.directory.proofs.Placing.{entry-laws}
use Rattle.directory.proofs.entries.write_entry.Goals as goal

pub returns-in_err-block-clause-laws : goal.returns-in_err-block-clause-laws
returns-in_err-block-clause-laws g c = entry-laws

pub returns-in_err-read-clause-laws : goal.returns-in_err-read-clause-laws
returns-in_err-read-clause-laws g c = entry-laws

pub returns-in_err-write-clause-laws : goal.returns-in_err-write-clause-laws
returns-in_err-write-clause-laws g c = entry-laws

pub returns-clause-laws : goal.returns-clause-laws
returns-clause-laws g c = entry-laws
