use Rattle.track_bound.proofs.Bounds.{few_cross}
use Rattle.track_bound.proofs.law.few_cross.Goals as goal

pub returns : goal.returns
returns c arch strip packed places routes legal column = few_cross arch strip packed places column routes legal
