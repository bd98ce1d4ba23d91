use Rattle.device_law.proofs.OwnerLemmas.{are_exactly_read, are_read_back}
use Rattle.device_law.proofs.law.owners_are_read.Goals as goal

pub returns-clause-each : goal.returns-clause-each
returns-clause-each c = are_read_back

pub returns-clause-exactly : goal.returns-clause-exactly
returns-clause-exactly c = are_exactly_read
