use Rattle.pathfinder.proofs.Prelude.{◌<◌, ◌∙◌, [], length, ap, subst, sym, get_or_default, Tree, has_node, RoutingState}
use Rattle.std.proofs.Common.{slice_index_or}
use Rattle.pathfinder.proofs.routing.Routing.has_node.Goals as goal

pub returns : goal.returns
returns c =
    let tree = c.index.result.now in
    let within : c.args.net < length c.self.inside.state.routes.items = subst (λ (s : RoutingState). c.args.net < length s.trees) (sym c.self.view_is) c.requires in
    c.has.ensures
    ∙ ap (λ (t : Tree). has_node t c.args.node) (c.index.ensures ∙ get_or_default c.self.inside.state.routes.items c.args.net tree [] within)
    ∙ ap (λ (s : RoutingState). has_node (slice_index_or s.trees c.args.net []) c.args.node) c.self.view_is
