use Rattle.flow_tests.proofs.Prelude.{refl}
use Rattle.flow_tests.proofs.TwoLanes.{along_known}
use Rattle.flow_tests.proofs.lanes.long_path.Goals as goal

pub returns : goal.returns
returns c = along_known _ c.in_ok-vec.ensures.items refl
