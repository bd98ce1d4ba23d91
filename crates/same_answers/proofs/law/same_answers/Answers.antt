use Rattle.same_answers.proofs.Both.{both_same}
use Rattle.same_answers.proofs.law.same_answers.Goals as goal

pub returns : goal.returns
returns c = both_same c.same_in_order.ensures c.same_with_workers.ensures c.read_the_same.ensures
