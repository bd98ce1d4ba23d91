use Rattle.session_threads.proofs.Prelude.{◌≡◌}
use Rattle.session_threads.proofs.session.Session.wait.Given as goal

-- nothing is noted while the wait goes on
abbrev pub invariant-loop : goal.invariant-loop
invariant-loop g l = (l.self.pass.of ≡ l.fn.self.pass.of) × (l.self.transcript ≡ l.fn.self.transcript)
