use Rattle.live_threads.proofs.Prelude.{is_ready, state_in, ahead_of, line_of, without_workers, ReplaysSome}
use Rattle.live_threads.proofs.replaying.Replayed.serve_log.Given as goal

-- the lines so far were served
abbrev pub invariant-loop : goal.invariant-loop
invariant-loop g l = record {
  ready : is_ready l.self.lines;
  some : ReplaysSome l.fn.told (without_workers (state_in l.fn.self.lines)) (g.D.Dialogue.view l.fn.source).remaining (g.D.Dialogue.view l.source).remaining (ahead_of l.feed) (line_of l.feed) (g.O.Outlet.view l.fn.outlet) (without_workers (state_in l.self.lines)) l.self.next l.self.taken (g.O.Outlet.view l.outlet);
}
