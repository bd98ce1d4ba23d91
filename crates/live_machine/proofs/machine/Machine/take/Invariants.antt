use Rattle.live_machine.proofs.Prelude.{◌≡◌, length, machine_of, is_ready}
use Rattle.live_machine.proofs.machine.Machine.take.Given as goal

abbrev pub invariant-loop-id : goal.invariant-loop-id
invariant-loop-id l =
    record {
      ready : is_ready l.self.server.lines;
      same : machine_of l.self ≡ machine_of l.fn.self;
    }

abbrev pub decreases-loop-id : goal.decreases-loop-id
decreases-loop-id l = length l.self.agenda.ready.items
