use Rattle.least_path.proofs.Bounds.{consistent_below}
use Rattle.least_path.proofs.lower_bound.lower_bound_law.Goals as goal

pub returns : goal.returns
returns c = λ g goal node bound_at law agree b. consistent_below g goal bound_at node law agree b
