use Rattle.configuration_text.proofs.Prelude.{◌≡◌, drop, node_beside, steps_of}
use Rattle.configuration_text.proofs.pins.step_beside.Given as goal

abbrev pub invariant-loop-place : goal.invariant-loop-place
invariant-loop-place l = node_beside l.side (steps_of (drop l.place l.path)) l.node ≡ node_beside l.side (steps_of l.path) l.node
