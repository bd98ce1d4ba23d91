use Rattle.pathfinder.proofs.Prelude.{ℕ, List, ◌≡◌, ◌<◌, length, ap, subst, ◌∙◌, arith, graph_of, occupancy, IsMost, count_over, over_in, wiring_of, RoutingState, Tells}
use Rattle.std.specs.Prelude.{IfSome, slice_index}
use Rattle.pathfinder.proofs.Overuses.{long_history, most_within, overuse_told}
use Rattle.pathfinder.proofs.routing.Routing.overuse.Goals as goal

pub invariant_of-counts : goal.invariant_of-counts
invariant_of-counts g c =
    let basis = g.G.StripGraph.basis c.args.graph.now in
    record { long = ap length c.as_slice-held.ensures.value ∙ c.self.inside.state.told.long ∙ ap (λ (s : RoutingState). length s.history) c.self.view_is ∙ long_history (wiring_of basis) c.args.self.now c.requires }

pub node_of-requires : goal.node_of-requires
node_of-requires g c =
    let basis = g.G.StripGraph.basis c.args.graph.now in
    let long : length c.as_slice-held.result.now ≡ (graph_of basis).count =
    ap length c.as_slice-held.ensures.value ∙ c.self.inside.state.told.long ∙ ap (λ (s : RoutingState). length s.history) c.self.view_is ∙ long_history (wiring_of basis) c.args.self.now c.requires in
    subst (λ count. IfSome c.most_overused.result (λ node. node < count)) long
    (most_within (over_in basis c.as_slice-held.result.now) (length c.as_slice-held.result.now) c.most_overused.result c.most_overused.ensures)

pub returns : goal.returns
returns g c =
    let basis = g.G.StripGraph.basis c.args.graph.now in
    let held = c.as_slice-held.result.now in
    let seen = c.self.view_is in
    let over_history : length c.self.inside.state.history.items ≡ (graph_of basis).count = ap (λ (s : RoutingState). length s.history) seen ∙ long_history (wiring_of basis) c.args.self.now c.requires in
    let long : length held ≡ (graph_of basis).count = ap length c.as_slice-held.ensures.value ∙ c.self.inside.state.told.long ∙ over_history in
    let tells : Tells (wiring_of basis) held c.args.self.now.trees =
    λ node l. ap (λ (xs : List ℕ). slice_index xs node) c.as_slice-held.ensures.value ∙ c.self.inside.state.told.tells node (omega (arith, l, over_history)) ∙ ap (λ (s : RoutingState). occupancy s.trees node) seen in
    overuse_told basis held c.args.self.now.trees (record { nodes = c.overused_count.result; most = c.node_of.result }) c.most_overused.result tells
    (c.overused_count.ensures ∙ ap (count_over (over_in basis held)) long)
    (subst (λ count. IsMost (over_in basis held) count c.most_overused.result) long c.most_overused.ensures)
    c.node_of.ensures
