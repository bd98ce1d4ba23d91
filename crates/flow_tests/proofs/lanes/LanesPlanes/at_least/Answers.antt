use Rattle.flow_tests.proofs.TwoLanes.{one_at_least}
use Rattle.flow_tests.proofs.lanes.LanesPlanes.at_least.Goals as goal

pub returns-then-place-lt-EXIT : goal.returns-then-place-lt-EXIT
returns-then-place-lt-EXIT c = one_at_least c.args.self.now.dear c.args.self.now.factor c.args.self.now.cheap c.args._track c.args.place c.if-place-lt-EXIT.true
