use Rattle.live_machine.proofs.Prelude.{◌-◌, HasTurns, machine_of, is_ready}
use Rattle.live_machine.proofs.machine.Machine.serve_turns.Given as goal

abbrev pub invariant-loop-served : goal.invariant-loop-served
invariant-loop-served l =
    record {
      ready : is_ready l.self.server.lines;
      turns : HasTurns l.name (machine_of l.fn.self) (machine_of l.self);
    }

abbrev pub decreases-loop-served : goal.decreases-loop-served
decreases-loop-served l = 64 - l.served
