use Rattle.live_machine.proofs.Prelude.{◌≡◌, sym, ap, subst, Held, HearsHeld, IsSaidBy}
use Rattle.live_machine.proofs.HoldLemmas.{said_after}
use Rattle.live_machine.proofs.held.Hold.hear.Goals as goal

pub invariant_of-self : goal.invariant_of-self
invariant_of-self c =
    let inside = c.self.inside in
    let name = inside.name.items in
    let line = c.args.line.now in
    let old : Held = record { name = name; id = inside.id; items = inside.items; text = inside.text } in
    let new : Held = record { name = name; id = inside.id; items = c.hear_in.new.items; text = c.hear_in.result } in
    let own : name ≡ c.args.self.now.name = ap (λ (h : Held). h.name) c.self.view_is in
    said_after old line new c.self.invariant
    (subst (λ n. IsSaidBy n line) (sym own) c.requires)
    (subst (λ t. HearsHeld (record { name = name; id = inside.id; items = inside.items; text = t }) line new) c.replace-text.ensures.value (c.hear_in.ensures name inside.id))
