use Rattle.flow_tests.proofs.TwoLanes.{plane_bound}
use Rattle.flow_tests.proofs.lanes.LanesPlanes.bound.Goals as goal

pub returns : goal.returns
returns c = plane_bound c.args.self.now.dear c.args.self.now.factor c.args.self.now.cheap c.args._track
