use Rattle.std.proofs.Common.{◌≡◌, ◌≤◌}
use Rattle.worker_pool.proofs.worker.run_worker.Given as goal

abbrev pub invariant-loop : goal.invariant-loop
invariant-loop g l = (l.seat.of ≡ l.pool.ready.now) × (l.fn.share.puts ≤ l.share.puts)
