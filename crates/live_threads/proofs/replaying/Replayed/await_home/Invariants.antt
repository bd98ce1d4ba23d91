use Rattle.live_threads.proofs.Prelude.{◌≡◌, is_ready, state_in, without_workers}
use Rattle.live_threads.proofs.replaying.Replayed.await_home.Given as goal

-- others see no change
abbrev pub invariant-loop : goal.invariant-loop
invariant-loop g l = record {
  ready : is_ready l.self.lines;
  same : without_workers (state_in l.self.lines) ≡ without_workers (state_in l.fn.self.lines);
  next : l.self.next ≡ l.fn.self.next;
  taken : l.self.taken ≡ l.fn.self.taken;
}
