use Rattle.plane_search.proofs.Split.{split}
use Rattle.plane_search.proofs.planes.split_law.Goals as goal

pub returns : goal.returns
returns c = λ f path family p. split family path p
