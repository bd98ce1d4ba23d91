use Rattle.live_machine.proofs.Prelude.{◌≡◌}
use Rattle.live_machine.proofs.machine.Machine.find_steps.Given as goal

abbrev pub invariant-loop-place : goal.invariant-loop-place
invariant-loop-place l =
    record {
      server : l.self.server ≡ l.fn.self.server;
      held : l.self.held ≡ l.fn.self.held;
    }
