use Rattle.live_machine.proofs.Prelude.{rules, ◌∙◌, not, bytes_eq, Held}
use Rattle.live_machine.proofs.NameLemmas.{left_by, those_left}
use Rattle.live_machine.proofs.held_names.forget.Goals as goal

pub returns : goal.returns
returns c =
    let name = c.args.name.now in
    left_by _ (λ (h : Held). not (bytes_eq h.name name)) _ (λ h b f called. search rules) c.args.holds.now.items c.retain.new.self.items c.retain.ensures.filtered
    ∙ those_left c.args.holds.now.items name
