use Rattle.live_machine.specs.Parts.{IsReady}
use Rattle.machine_tests.proofs.given_up.gives_up.Given as goal

abbrev pub invariant-loop : goal.invariant-loop
invariant-loop l = IsReady l.machine
