use Rattle.live_machine.proofs.Prelude.{◌≡◌, Some, None, rules, name_of, machine_of}
use Rattle.live_machine.proofs.WorkLemmas.{gives_by, puts_none}
use Rattle.live_machine.proofs.machine.Machine.give_back.Goals as goal

pub returns-in-Some-clause-gives : goal.returns-in-Some-clause-gives
returns-in-Some-clause-gives c =
    let is : name_of (machine_of c.args.self.now).live.stage.names c.args.back.step.id ≡ Some c.in-Some.name.now = search rules in
    gives_by _ c.in-Some.name.now _ _ _ c.give_back_of.result is (c.give_back.ensures.same c.args.self.now.held) c.give_back_of.ensures.gives

pub returns-in-None-clause-gives : goal.returns-in-None-clause-gives
returns-in-None-clause-gives c =
    let is : name_of (machine_of c.args.self.now).live.stage.names c.args.back.step.id ≡ None = search rules in
    puts_none _ _ _ is (c.give_back.ensures.same c.args.self.now.held)
