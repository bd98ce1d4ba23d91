use Rattle.sessions.proofs.Prelude.{[], ◌∷◌, Err, inl, refl, Status, NoMemory, Tenant, Served}
use Rattle.sessions.proofs.CommandLemmas.{command_asks, command_runs}
use Rattle.sessions.proofs.StepLemmas.{ends_as_status, ends_without_memory, wait_asks}
use Rattle.sessions.proofs.WaitLemmas.{wait_leaves}
use Rattle.sessions.proofs.asking.ask.Goals as goal

pub returns-in-Command : goal.returns-in-Command
returns-in-Command c = command_asks c.args.graph.now c.args.core.now c.tenant.new.self c.args.id c.args.line c.in-Command.command c.tenant.result c.in-Command.is c.tenant.ensures

pub returns-in-NoMemory : goal.returns-in-NoMemory
returns-in-NoMemory c =
    let steps = c.run_steps.ensures.waits in
    wait_asks c.args.graph.now c.args.core.now c.run_steps.new.core c.run_steps.new.core c.args.id c.args.line c.run_steps.result steps.0 [] (Served (Err NoMemory)) c.in-Wait.is steps.1 steps.2
    (ends_without_memory c.args.id c.run_steps.result c.in-NoMemory.is) refl (λ own. inl refl)

pub returns-in_default : goal.returns-in_default
returns-in_default c =
    let steps = c.run_steps.ensures.waits in
    let served = c.tenant-in_default.result in
    let told = Tenant c.args.id Status served ∷ [] in
    wait_asks c.args.graph.now c.args.core.now c.run_steps.new.core c.tenant-in_default.new.self c.args.id c.args.line c.run_steps.result steps.0 told (Served served) c.in-Wait.is steps.1 steps.2
    (ends_as_status c.args.id c.run_steps.result told (Served served) c.in_default.not-NoMemory (served, refl, refl)) (command_runs c.run_steps.new.core c.tenant-in_default.new.self c.args.id Status served c.tenant-in_default.ensures)
    (λ own. wait_leaves c.args.core.now c.run_steps.new.core c.tenant-in_default.new.self c.args.id steps.0 c.run_steps.result served steps.1 steps.2 c.in_default.not-NoMemory (c.run_steps.ensures.own own) c.tenant-in_default.ensures)
