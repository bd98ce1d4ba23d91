use Rattle.service_core.proofs.Alike.{told_the_same}
use Rattle.service_core.proofs.law.same_alone.Goals as goal

pub returns : goal.returns
returns c = told_the_same
