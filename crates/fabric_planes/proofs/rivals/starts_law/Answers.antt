use Rattle.fabric_planes.proofs.Heads.{plane_head}
use Rattle.fabric_planes.proofs.rivals.starts_law.Goals as goal

pub returns : goal.returns
returns c = λ basis cost starts goal t track path is search few p. plane_head is t cost starts goal search track few path p
