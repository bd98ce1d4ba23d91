use Rattle.same_answers.proofs.Sessions.{text_in_order}
use Rattle.same_answers.proofs.law.same_in_order.Goals as goal

pub returns : goal.returns
returns c = text_in_order c.same_without_workers.ensures
