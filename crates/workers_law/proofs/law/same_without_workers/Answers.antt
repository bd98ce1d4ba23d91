use Rattle.workers_law.proofs.InOrder.{same_text}
use Rattle.workers_law.proofs.law.same_without_workers.Goals as goal

pub returns : goal.returns
returns c = same_text
