use Rattle.strips.proofs.Prelude.{◌≡◌, rules, refl, filter-from_retain, strips_without}
use Rattle.strips.proofs.Laid.{IsLaidOut-without}
use Rattle.strips.proofs.layout.StripPlan.remove.Goals as goal

pub invariant_of-self : goal.invariant_of-self
invariant_of-self c =
    let kept : c.retain.new.self.items ≡ strips_without c.self.inside.strips.items c.args.id = filter-from_retain _ _ _ (λ x b f' y k. search rules) _ _ c.retain.ensures.filtered in
    rw kept (IsLaidOut-without _ c.args.id c.self.invariant)

pub returns : goal.returns
returns c =
    let kept : c.retain.new.self.items ≡ strips_without c.self.inside.strips.items c.args.id = filter-from_retain _ _ _ (λ x b f' y k. search rules) _ _ c.retain.ensures.filtered in
    rw (kept, ← c.self.view_is) refl
