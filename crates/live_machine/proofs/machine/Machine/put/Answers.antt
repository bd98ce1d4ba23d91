use Rattle.live_machine.proofs.Prelude.{◌≡◌, None, rules, name_of, machine_of}
use Rattle.live_machine.proofs.WorkLemmas.{puts_none}
use Rattle.live_machine.proofs.machine.Machine.put.Goals as goal

pub returns-in-None-clause-puts : goal.returns-in-None-clause-puts
returns-in-None-clause-puts c =
    let is : name_of (machine_of c.args.self.now).live.stage.names c.args.done.id ≡ None = search rules in
    puts_none _ _ _ is (c.give_back.ensures.same c.args.self.now.held)
