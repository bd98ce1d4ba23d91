use Rattle.live_machine.proofs.Prelude.{length, AreServed, items_in, machine_of, MachineState, held_of, is_ready}
use Rattle.live_machine.proofs.machine.Machine.serve_items.Given as goal

-- what is served from here on are the items that are left
abbrev pub invariant-loop : goal.invariant-loop
invariant-loop l =
    record {
      ready : is_ready l.self.server.lines;
      rest : (new : MachineState) → AreServed (held_of l.self.held l.name) l.name (machine_of l.self) new → AreServed (held_of l.fn.self.held l.fn.name) l.fn.name (machine_of l.fn.self) new;
    }

abbrev pub decreases-loop : goal.decreases-loop
decreases-loop l = length (items_in (held_of (l.self.held) l.name))
