use Rattle.job_state.proofs.Prelude.{None, refl, sym, subst, IsOveruse, nets_to_route, Overuse, no_overuse, on_strip, RoutingUnderWay}
use Rattle.job_state.proofs.Stages.{none_begun}
use Rattle.job_state.proofs.routing.RoutingJob.overuse.Goals as goal

pub returns-in-Begun : goal.returns-in-Begun
returns-in-Begun g c =
    let inside = c.self.inside in
    let basis = on_strip inside.arch inside.strip in
    let begun = c.in-Begun.field-0 in
    let none : Overuse = record { nodes = 0; most = None } in
    let trees = none_begun basis inside.stage begun c.in-Begun.is in
    subst (λ (r : RoutingUnderWay). IsOveruse r.basis r.state.trees none) c.self.view_is
    (subst (λ ts. IsOveruse basis ts none) (sym trees) (no_overuse basis (nets_to_route basis begun.packed begun.places.items) none refl))
