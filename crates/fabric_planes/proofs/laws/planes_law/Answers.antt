use Rattle.fabric_planes.proofs.Strips.{strip_family}
use Rattle.fabric_planes.proofs.laws.planes_law.Goals as goal

pub returns : goal.returns
returns c = λ basis cost starts goal t is s. strip_family is cost starts goal t s
