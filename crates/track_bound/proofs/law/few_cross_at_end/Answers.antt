use Rattle.track_bound.proofs.Prelude.{are_nets, routed_after, nets_to_route, wiring_of, routes_by_node, graph_of}
use Rattle.track_bound.proofs.law.few_cross_at_end.Goals as goal

pub returns : goal.returns
returns c basis packed places iterations known lawful placed done column =
    let are = are_nets basis known (c.one_graph.ensures.exists basis known) packed places placed c.laws_of_places.ensures.within lawful in
    let legal = c.done_is_legal.ensures basis packed places iterations known are done in
    let routes = routes_by_node (graph_of basis) (routed_after (wiring_of basis) (nets_to_route basis packed places) iterations).trees in
    c.few_cross.ensures basis.arch basis.strip packed places routes legal column
