use Rattle.live_machine.proofs.Prelude.{held_of}
use Rattle.live_machine.proofs.MachineLemmas.{called_off, on_ok}
use Rattle.live_machine.proofs.machine.Machine.call_off.Goals as goal

pub returns-clause-hears : goal.returns-clause-hears
returns-clause-hears c =
    on_ok c.serve_said.result
    (λ serves. called_off (held_of c.args.self.now.held c.args.name.now) _ _ _ c.args.name.now c.args.line.now c.in_ok-end_hold.ensures.ends (serves c.end_hold.new.self.held))
    c.serve_said.ensures.serves
