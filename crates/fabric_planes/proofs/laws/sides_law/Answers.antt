use Rattle.fabric_planes.proofs.SideWays.{by_side}
use Rattle.fabric_planes.proofs.laws.sides_law.Goals as goal

pub returns : goal.returns
returns c = λ basis cost goal from rest pins lasts is costs within kind bounds w l. by_side is costs goal within kind pins lasts bounds from rest w l
