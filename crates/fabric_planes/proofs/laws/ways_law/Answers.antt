use Rattle.fabric_planes.proofs.Crossing.{way_over}
use Rattle.fabric_planes.proofs.laws.ways_law.Goals as goal

pub returns : goal.returns
returns c = λ basis cost goal from rest is costs kind w l. way_over is costs goal kind rest from w l
