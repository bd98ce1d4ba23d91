use Rattle.live_machine.specs.Parts.{IsReady}
use Rattle.machine_tests.proofs.turns.are_taken.Given as goal

abbrev pub invariant-loop : goal.invariant-loop
invariant-loop l = IsReady l.machine
