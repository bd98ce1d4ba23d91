use Rattle.std.proofs.Common.{◌≡◌}
use Rattle.std.specs.Prelude.{All}
use Rattle.thread_tests.proofs.same_told.workers_are_seated.Given as goal

abbrev pub invariant-loop : goal.invariant-loop
invariant-loop g l = All (λ s. s.of ≡ l.ready) l.seats.items × All (λ w. w.seat.of ≡ l.ready) l.workers.items
