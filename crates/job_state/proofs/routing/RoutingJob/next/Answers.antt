use Rattle.job_state.proofs.Prelude.{◌≡◌, ◌+◌, ◌∙◌, arith, ap, sym, subst, IfErr-weaker, IfOk-weaker, IsDone, Routing, Routed, Unlisted, routing_after, AreThere, on_strip, on_trees, state_at, IsLeft, RoutingUnderWay}
use Rattle.job_state.proofs.There.{done_there}
use Rattle.job_state.proofs.RoutingSteps.{few_nets, found_on}
use Rattle.job_state.proofs.routing.RoutingJob.next.Goals as goal

pub overflow_cast-result : goal.overflow_cast-result
overflow_cast-result g c =
    let without = rw c.in-Ok-NoPath.field-0-is at c.in-Ok-NoPath.ensures.end in
    let few = few_nets (g.G.StripGraph.basis c.args.graph.now) c.in-Ok.routing c.in-Ok-NoPath.net c.in-Ok.ensures.goes without in
    omega (arith, few)

pub routed_on-requires-clause-routes : goal.routed_on-requires-clause-routes
routed_on-requires-clause-routes g c =
    let basis = g.G.StripGraph.basis c.args.graph.now in
    let done : IsDone basis c.in-Ok.routing c.in-Ok-Done.routes = rw c.in-Ok-Done.field-0-is at c.in-Ok-Done.ensures.end in
    let there = done_there basis c.in-Ok.routing c.in-Ok-Done.routes done in
    subst (λ other. AreThere other (on_trees c.in-Ok-Done.routes)) (c.requires ∙ sym (ap (λ (r : RoutingUnderWay). r.basis) c.self.view_is)) there

pub returns-in-Ok-Done-clause-made : goal.returns-in-Ok-Done-clause-made
returns-in-Ok-Done-clause-made g c =
    let basis = g.G.StripGraph.basis c.args.graph.now in
    let inside = c.self.inside in
    let routing = c.in-Ok.routing in
    let routes = c.in-Ok-Done.routes in
    let done : IsDone basis routing routes = rw c.in-Ok-Done.field-0-is at c.in-Ok-Done.ensures.end in
    let here = c.requires ∙ sym (ap (λ (r : RoutingUnderWay). r.basis) c.self.view_is) in
    let state = c.in-Ok.ensures.made ∙ (ap (λ other. state_at other inside.stage) here ∙ ap (λ (r : RoutingUnderWay). r.state) c.self.view_is) in
    let found = found_on basis (on_strip inside.arch inside.strip) c.args.self inside.pads.items routing routes c.routed_on.result done here c.requires (ap (λ (r : RoutingUnderWay). r.pads) c.self.view_is) state c.routed_on.ensures in
    IfOk-weaker c.list_routed.result (λ work. work ≡ Routed c.routed_on.result) (λ work. work ≡ routing_after c.args.self.basis c.args.self.pads c.args.self.state.nets (c.args.self.state.iterations + 1)) (λ work is. is ∙ found) c.list_routed.ensures.made

pub returns-in-Ok-Done-clause-back : goal.returns-in-Ok-Done-clause-back
returns-in-Ok-Done-clause-back g c =
    let basis = g.G.StripGraph.basis c.args.graph.now in
    let inside = c.self.inside in
    let routing = c.in-Ok.routing in
    let routes = c.in-Ok-Done.routes in
    let done : IsDone basis routing routes = rw c.in-Ok-Done.field-0-is at c.in-Ok-Done.ensures.end in
    let here = c.requires ∙ sym (ap (λ (r : RoutingUnderWay). r.basis) c.self.view_is) in
    let state = c.in-Ok.ensures.made ∙ (ap (λ other. state_at other inside.stage) here ∙ ap (λ (r : RoutingUnderWay). r.state) c.self.view_is) in
    let found = found_on basis (on_strip inside.arch inside.strip) c.args.self inside.pads.items routing routes c.routed_on.result done here c.requires (ap (λ (r : RoutingUnderWay). r.pads) c.self.view_is) state c.routed_on.ensures in
    IfErr-weaker c.list_routed.result (λ work. work ≡ Unlisted c.routed_on.result) (IsLeft (Routing c.args.self)) (λ work is. subst (IsLeft (Routing c.args.self)) (sym is) (sym found)) c.list_routed.ensures.back
