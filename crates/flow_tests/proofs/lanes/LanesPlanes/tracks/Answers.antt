use Rattle.flow_tests.proofs.TwoLanes.{is_family}
use Rattle.flow_tests.proofs.lanes.LanesPlanes.tracks.Goals as goal

pub returns-clause-lawful : goal.returns-clause-lawful
returns-clause-lawful c = is_family c.args.self.now.dear c.args.self.now.factor c.args.self.now.cheap
