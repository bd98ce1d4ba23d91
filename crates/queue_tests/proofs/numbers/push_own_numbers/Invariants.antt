use Rattle.std.proofs.Common.{◌≡◌}
use Rattle.queue_tests.proofs.numbers.push_own_numbers.Given as goal

abbrev pub invariant-loop-number : goal.invariant-loop-number
invariant-loop-number g l = (l.seat.of ≡ l.ready) × (l.seat.of ≡ l.fn.seat.of)
