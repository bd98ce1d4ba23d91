use Rattle.fabric_planes.proofs.Labeled.{is_family}
use Rattle.fabric_planes.proofs.labels.labels_law.Goals as goal

pub returns : goal.returns
returns c = is_family
