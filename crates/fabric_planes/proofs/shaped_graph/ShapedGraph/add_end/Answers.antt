use Rattle.fabric_planes.proofs.Strips.{node_near}
use Rattle.fabric_planes.proofs.shaped_graph.ShapedGraph.add_end.Goals as goal

pub place-requires : goal.place-requires
place-requires g c = node_near c.laws.ensures.basis c.args.number c.requires.within c.node-node.result c.node-node.ensures
