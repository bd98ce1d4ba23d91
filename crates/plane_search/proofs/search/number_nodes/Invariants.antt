use Rattle.plane_search.proofs.Prelude.{◌≡◌, ◌++◌, map, take, drop}
use Rattle.plane_search.proofs.search.number_nodes.Given as goal

abbrev pub invariant-loop-node : goal.invariant-loop-node
invariant-loop-node g l = l.node-items ≡ map ((g.P.Planes.family l.view.planes.now).number l.view.track) (take l.node-index l.fn.nodes.items) ++ drop l.node-index l.fn.nodes.items
