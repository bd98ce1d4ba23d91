use Rattle.one_user.proofs.Bases.{crowding_at, none_at}
use Rattle.one_user.proofs.device.OwnDevice.crowding_of.Goals as goal

pub returns-in_ok-crowding-in-GaveUp : goal.returns-in_ok-crowding-in-GaveUp
returns-in_ok-crowding-in-GaveUp c = λ task same given.
    crowding_at c.args.self.now c.args.placing.now task same given c.in_ok-end.field-0.end c.in-GaveUp.routing c.in-GaveUp.is c.in_ok-end.ensures.0
    c.in_ok-crowding-in-GaveUp.field-0 c.in_ok-crowding-in-GaveUp.ensures.packed c.in_ok-crowding-in-GaveUp.ensures.rows c.in_ok-crowding-in-GaveUp.ensures.overused c.in_ok-crowding-in-GaveUp.ensures.nodes

pub returns-in_default : goal.returns-in_default
returns-in_default c = λ task same given. none_at c.args.self.now c.args.placing.now task same given c.in_ok-end.field-0.end c.in_ok-end.ensures.0 c.in_default.not-GaveUp
