use Rattle.live_machine.proofs.Prelude.{◌≡◌, Bool, Option, Some, true, subst, rules, EndsStep, machine_of}
use Rattle.live_machine.proofs.machine.Machine.put_of.Goals as goal

pub returns-in_ok-go_on-in-Some-true-clause-puts : goal.returns-in_ok-go_on-in-Some-true-clause-puts
returns-in_ok-go_on-in-Some-true-clause-puts c =
    let P : Option Bool → Type 0 = λ e. EndsStep e c.args.name.now (machine_of c.args.self.now) (machine_of c.put_step.new.self) in
    let is : c.in_ok-put_step.field-0 ≡ Some true = search rules in
    (_, subst P is c.in_ok-put_step.ensures.ends, c.in_ok-go_on-in-Some-true.ensures.turns)
