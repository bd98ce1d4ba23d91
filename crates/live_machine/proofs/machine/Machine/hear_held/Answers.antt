use Rattle.live_machine.proofs.Prelude.{refl, held_of}
use Rattle.live_machine.proofs.MachineLemmas.{heard_last, on_ok}
use Rattle.live_machine.proofs.machine.Machine.hear_held.Goals as goal

pub returns-clause-hears : goal.returns-clause-hears
returns-clause-hears c =
    let names = c.args.self.now.held in
    let held = c.hear.new.self in
    on_ok c.end_hold.result
    (heard_last (held_of names c.args.name.now) _ _ c.args.name.now c.args.line.now held c.args.had_items refl c.requires.items c.if-had_items.false c.in_ok-hear.ensures.ok)
    c.end_hold.ensures.ends
