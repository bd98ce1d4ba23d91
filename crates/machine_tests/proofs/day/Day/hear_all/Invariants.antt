use Rattle.live_machine.specs.Parts.{IsReady}
use Rattle.machine_tests.proofs.day.Day.hear_all.Given as goal

abbrev pub invariant-loop-line : goal.invariant-loop-line
invariant-loop-line l = IsReady l.machine
