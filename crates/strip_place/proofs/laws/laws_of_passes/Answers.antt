use Rattle.strip_place.proofs.Cooling.{few_passes, stays_past}
use Rattle.strip_place.proofs.laws.laws_of_passes.Goals as goal

pub returns-clause-few : goal.returns-clause-few
returns-clause-few c = few_passes

pub returns-clause-stays : goal.returns-clause-stays
returns-clause-stays c = stays_past
