use Rattle.tenant_slot.proofs.Prelude.{◌≡◌, [], ◌∙◌, sym, ap, subst, has, resources_of, routed_set, SlotState}
use Rattle.tenant_slot.proofs.RoutedSets.{none_held, routed_is}
use Rattle.tenant_slot.proofs.slot.Slot.routed_resources.Goals as goal

pub returns-in-Routed-clause-exact : goal.returns-in-Routed-clause-exact
returns-in-Routed-clause-exact c =
    let routing = c.in-Routed.routing in
    let is : routed_set c.args.self.now.state ≡ resources_of routing.step.sources =
    subst (λ (slot : SlotState). routed_set slot.state ≡ resources_of routing.step.sources) c.self.view_is
    (routed_is c.self.inside.id c.self.inside.arch c.self.inside.strip c.self.inside.standing c.self.inside.entries c.in-Routed.field-0 c.in-Routed.field-1 c.in-Routed.field-2 routing c.in-Routed.is c.self.invariant) in
    λ r. c.resources.ensures.exact r ∙ ap (λ all. has all r) (sym is)

pub returns-in_default-clause-exact : goal.returns-in_default-clause-exact
returns-in_default-clause-exact c =
    let is : routed_set c.args.self.now.state ≡ [] =
    subst (λ (slot : SlotState). routed_set slot.state ≡ []) c.self.view_is (none_held c.self.inside.arch c.self.inside.strip c.self.inside.standing c.self.inside.entries c.in_default.not-Routed) in
    λ r. sym (ap (λ all. has all r) is)
