use Rattle.fabric_planes.proofs.Prelude.{family_of, Terminals, graph_at, labels_of}
use Rattle.fabric_planes.proofs.net_search.first_into.Goals as goal

pub returns-clause-none : goal.returns-clause-none
unfolding family_of labels_of
returns-clause-none g c = λ none.
    let planes = c.args.planes.now in
    let t : Terminals = record { source = planes.source; sink = planes.sink } in
    let basis = g.G.StripGraph.basis planes.strip.graph.now in
    let cost = g.C.NodeCosts.costs planes.costs.now in
    let family = c.planes_law.ensures basis cost planes.starts.now planes.goal t c.laws.ensures.basis planes.search in
    (c.least_path_law.ensures.none (graph_at basis cost) planes.starts.now planes.goal family.lawful family.starts).1 (c.first_into.ensures.none none)
