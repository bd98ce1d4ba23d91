use Rattle.step_bounds.proofs.Counts.{are_few, flow_is_short}
use Rattle.step_bounds.proofs.law.steps_are_few.Goals as goal

pub returns-clause-few : goal.returns-clause-few
returns-clause-few c = are_few

pub returns-clause-flow : goal.returns-clause-flow
returns-clause-flow c = flow_is_short
