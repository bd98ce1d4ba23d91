use Rattle.workers_law.proofs.SameScript.{read_the_same}
use Rattle.workers_law.proofs.law.read_the_same.Goals as goal

pub returns : goal.returns
returns c = read_the_same
