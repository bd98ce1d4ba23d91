use Rattle.std.proofs.Common.{◌≤◌}
use Rattle.random_script.proofs.circuit.draw_sources.Given as goal

abbrev pub invariant-loop-draw : goal.invariant-loop-draw
invariant-loop-draw l = l.count ≤ l._draw
