use Rattle.fabric_planes.proofs.SideWires.{are_sides}
use Rattle.fabric_planes.proofs.side_places.list_sides.Goals as goal

pub returns-clause-are_sides : goal.returns-clause-are_sides
returns-clause-are_sides c = λ basis is shape inside. are_sides basis is c.args.sink inside c.list_places.new.sides.items (c.in_ok-list_places.ensures.value basis shape)
