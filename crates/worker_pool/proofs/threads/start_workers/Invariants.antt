use Rattle.std.proofs.Common.{◌≡◌}
use Rattle.std.specs.Prelude.{All}
use Rattle.worker_pool.proofs.threads.start_workers.Given as goal

abbrev pub invariant-loop-share : goal.invariant-loop-share
invariant-loop-share g l = All (λ s. s.of ≡ l.pool.ready.now) l.seats.items
