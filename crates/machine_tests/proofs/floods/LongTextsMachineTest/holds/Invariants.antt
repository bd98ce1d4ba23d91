use Rattle.live_machine.specs.Parts.{IsReady}
use Rattle.machine_tests.proofs.floods.LongTextsMachineTest.holds.Given as goal

abbrev pub invariant-loop-row : goal.invariant-loop-row
invariant-loop-row l = IsReady l.machine
