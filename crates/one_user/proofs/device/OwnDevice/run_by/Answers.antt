use Rattle.one_user.proofs.Bases.{all_nets_routed}
use Rattle.one_user.proofs.device.OwnDevice.run_by.Goals as goal

pub run_with_routes-requires : goal.run_with_routes-requires
run_with_routes-requires c = all_nets_routed c.args.self.now c.args.placing.now c.args.routes.now c.requires.0
