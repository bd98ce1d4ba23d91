use Rattle.configuration.proofs.OwnThings.{are_apart, name_only}
use Rattle.configuration.proofs.laws.own_things.Goals as goal

pub returns-clause-named : goal.returns-clause-named
returns-clause-named c = name_only

pub returns-clause-apart : goal.returns-clause-apart
returns-clause-apart c = are_apart
