use Rattle.script_threads.proofs.Prelude.{◌≡◌, ◌++◌, All, map, started_by}
use Rattle.script_threads.proofs.crowd.start_sessions.Given as goal

-- the sessions so far are started
abbrev pub invariant-loop-seat : goal.invariant-loop-seat
invariant-loop-seat g l = record {
  passes : All (λ p. p.of ≡ l.pool.ready.now) l.passes.items;
  started : map started_by l.started.items ≡ map started_by l.fn.started.items ++ l.yielded;
}
