use Rattle.fabric_planes.proofs.Prelude.{Terminals}
use Rattle.fabric_planes.proofs.NetSearches.{known_in}
use Rattle.fabric_planes.proofs.net_search.least_over.Goals as goal

pub improve-requires-clause-known : goal.improve-requires-clause-known
improve-requires-clause-known g c =
    let planes = c.args.planes.now in
    let t : Terminals = record { source = planes.source; sink = planes.sink } in
    let basis = g.G.StripGraph.basis planes.strip.graph.now in
    known_in basis (g.C.NodeCosts.costs planes.costs.now) planes.starts.now planes.goal t c.args.path.now (c.requires c.if-is_known.true)
