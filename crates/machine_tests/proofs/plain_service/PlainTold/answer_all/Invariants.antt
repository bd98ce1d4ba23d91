use Rattle.live_input.specs.Serving.{is_ready}
use Rattle.machine_tests.proofs.plain_service.PlainTold.answer_all.Given as goal

abbrev pub invariant-loop-line : goal.invariant-loop-line
invariant-loop-line l = is_ready l.lines
