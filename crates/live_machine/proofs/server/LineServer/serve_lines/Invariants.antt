use Rattle.live_machine.proofs.Prelude.{AllByRecursion, List, length, physical_lines, Held, IsSaidBy, MachineState, ServesAll, state_with, is_ready}
use Rattle.live_machine.proofs.server.LineServer.serve_lines.Given as goal

-- what is served from here on is what is left of all lines
abbrev pub invariant-loop-rest : goal.invariant-loop-rest
invariant-loop-rest l =
    record {
      said : AllByRecursion (IsSaidBy l.name) (physical_lines l.rest);
      ready : is_ready l.self.lines;
      rest : (held : List Held) (new : MachineState) → ServesAll l.name (physical_lines l.rest) (state_with l.self held) new → ServesAll l.name (physical_lines l.fn.lines) (state_with l.fn.self held) new;
    }

abbrev pub decreases-loop-rest : goal.decreases-loop-rest
decreases-loop-rest l = length l.rest
