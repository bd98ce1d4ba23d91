use Rattle.live_machine.proofs.Prelude.{◌≡◌, Bool, true, refl, subst, sym, ◌∙◌, rules, ServesOne, machine_of, held_of}
use Rattle.live_machine.proofs.MachineLemmas.{first_served, if_some}
use Rattle.live_machine.proofs.machine.Machine.serve_first.Goals as goal

pub returns-clause-turn : goal.returns-clause-turn
returns-clause-turn c =
    let names = c.args.self.now.held in
    let name = c.args.name.now in
    let went : c.in_ok-serve_item.field-0 ≡ true = search rules in
    let P : Bool → Type 0 = λ w. ServesOne w (held_of names name) name (machine_of c.args.self.now) (machine_of c.serve_item.new.self) in
    first_served (held_of names name) _ _ _ name refl (if_some (held_of names name) (λ h is. sym is ∙ c.if-is_waiting.false) c.is_waiting.ensures)
    (subst P went c.in_ok-serve_item.ensures.serves) c.in_ok-free_if_done.ensures.frees
