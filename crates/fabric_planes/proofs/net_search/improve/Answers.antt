use Rattle.fabric_planes.proofs.Prelude.{ℕ, List, subst, IfSome, IsHeadOf, family_of, Terminals, labels_of}
use Rattle.fabric_planes.proofs.NetRoads.{is_track}
use Rattle.fabric_planes.proofs.NetSearches.{nodes_within}
use Rattle.fabric_planes.proofs.net_search.improve.Goals as goal

pub head_of-head-requires : goal.head_of-head-requires
head_of-head-requires g c =
    let planes = c.args.planes.now in
    let t : Terminals = record { source = planes.source; sink = planes.sink } in
    let basis = g.G.StripGraph.basis planes.strip.graph.now in
    let cost = g.C.NodeCosts.costs planes.costs.now in
    record { within = rw c.deref.ensures.value (nodes_within basis cost planes.starts.now planes.goal t (c.planes_law.ensures basis cost planes.starts.now planes.goal t c.laws.ensures.basis planes.search) c.args.path.now c.requires.known) }

pub least_into-requires-clause-about : goal.least_into-requires-clause-about
least_into-requires-clause-about g c =
    let planes = c.args.planes.now in
    let basis = g.G.StripGraph.basis planes.strip.graph.now in
    c.in_ok-fill_rivals.ensures.rivals c.args.path.now.nodes.items
    (subst (λ (nodes : List ℕ). IfSome c.head_of-head.result (λ head. IsHeadOf basis head nodes)) c.deref.ensures.value c.head_of-head.ensures)

pub least_into-requires-clause-done : goal.least_into-requires-clause-done
least_into-requires-clause-done g c = λ few.
    let planes = c.args.planes.now in
    let t : Terminals = record { source = planes.source; sink = planes.sink } in
    let basis = g.G.StripGraph.basis planes.strip.graph.now in
    c.requires.done (is_track basis (g.C.NodeCosts.costs planes.costs.now) planes.starts.now planes.goal t c.args.done few)

pub returns : goal.returns
unfolding family_of labels_of
returns g c = c.least_into.ensures.exact
