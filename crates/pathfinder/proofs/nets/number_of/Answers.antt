use Rattle.pathfinder.proofs.Prelude.{sym, graph_of}
use Rattle.pathfinder.proofs.NodeNumbers.{number_found}
use Rattle.pathfinder.proofs.nets.number_of.Goals as goal

pub returns : goal.returns
returns g c =
    let there = rw c.unwrap.ensures at c.number.ensures.value in
    sym (number_found (graph_of (g.G.StripGraph.basis c.args.graph.now)) c.laws.ensures.lawful.ordered c.unwrap.result c.args.node there.0 there.1)
