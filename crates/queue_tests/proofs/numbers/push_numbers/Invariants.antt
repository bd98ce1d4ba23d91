use Rattle.std.proofs.Common.{◌≡◌}
use Rattle.queue_tests.proofs.numbers.push_numbers.Given as goal

abbrev pub invariant-loop-number : goal.invariant-loop-number
invariant-loop-number g l = (l.pass.of ≡ l.ready) × (l.pass.of ≡ l.fn.pass.of)
