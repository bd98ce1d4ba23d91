use Rattle.std.proofs.Common.{◌≡◌}
use Rattle.queue_tests.proofs.numbers.pop_numbers.Given as goal

abbrev pub invariant-loop : goal.invariant-loop
invariant-loop g l = (l.seat.of ≡ l.ready) × (l.seat.of ≡ l.fn.seat.of)
