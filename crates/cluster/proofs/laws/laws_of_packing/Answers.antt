use Rattle.cluster.proofs.PackingLaws.{packing_lawful}
use Rattle.cluster.proofs.laws.laws_of_packing.Goals as goal

pub returns : goal.returns
returns c = packing_lawful
