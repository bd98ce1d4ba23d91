use Rattle.one_user.proofs.Prelude.{ap, subst, ◌∙◌, Basis, AreCrowdedNodes}
use Rattle.one_user.proofs.Bases.{same_basis}
use Rattle.one_user.proofs.device.OwnDevice.crowding_by.Goals as goal

pub returns-in-Ok-clause-nodes : goal.returns-in-Ok-clause-nodes
returns-in-Ok-clause-nodes c =
    let own = c.args.self.now in
    let arch = c.in-Some.ensures.arch ∙ ap (λ (b : Basis). b.arch) c.self.invariant.0 ∙ ap (λ (b : Basis). b.arch) c.self.view_is in
    let strip = c.in-Some.ensures.strip ∙ ap (λ (b : Basis). b.strip) c.self.view_is in
    subst (λ (b : Basis). AreCrowdedNodes b c.args.routing.now.trees 10 c.in_ok-overused.nodes.items) (same_basis c.in-Some.window own arch strip) c.in_ok-overused.ensures.nodes
