use Rattle.pathfinder.proofs.Prelude.{◌≡◌, map, take, block_nets, net_to_route}
use Rattle.pathfinder.proofs.nets.nets_of.Given as goal

abbrev pub invariant-loop-number : goal.invariant-loop-number
invariant-loop-number g l = l.nets.items ≡ map (net_to_route (g.G.StripGraph.basis l.graph) l.packed l.places) (take l.number (block_nets l.packed))
