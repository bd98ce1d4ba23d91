use Rattle.live_machine.specs.Parts.{IsReady}
use Rattle.machine_tests.proofs.random_days.live_through.Given as goal

abbrev pub invariant-loop : goal.invariant-loop
invariant-loop l = IsReady l.machine
