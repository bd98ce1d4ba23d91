use Rattle.configuration_text.proofs.Prelude.{◌≡◌, drop, node_beside, pairs_of}
use Rattle.configuration_text.proofs.pins.node_beside.Given as goal

abbrev pub invariant-loop-path : goal.invariant-loop-path
invariant-loop-path l = node_beside l.side (pairs_of (drop l.path-index l.paths)) l.node ≡ node_beside l.side (pairs_of l.paths) l.node
