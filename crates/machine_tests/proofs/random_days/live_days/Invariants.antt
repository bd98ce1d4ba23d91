use Rattle.live_input.specs.Serving.{is_ready}
use Rattle.live_machine.specs.Parts.{IsReady}
use Rattle.machine_tests.proofs.random_days.live_days.Given as goal

abbrev pub invariant-loop-number : goal.invariant-loop-number
invariant-loop-number l = IsReady l.machine × is_ready l.lines
