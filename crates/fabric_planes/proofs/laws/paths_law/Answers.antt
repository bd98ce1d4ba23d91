use Rattle.fabric_planes.proofs.PinPaths.{path_start}
use Rattle.fabric_planes.proofs.laws.paths_law.Goals as goal

pub returns : goal.returns
returns c = λ basis cost starts goal path pins lasts is costs within kind bounds are p. path_start is costs goal within kind pins lasts bounds starts are path p
