use Rattle.layout_check.proofs.Prelude.{◌≡◌, ◌<◌, ℕ, get_or, Opin, graph_of}
use Rattle.layout_check.proofs.routes.other_pin.Given as goal

abbrev pub invariant-loop-node : goal.invariant-loop-node
invariant-loop-node l = (k : ℕ) → k < l.node-index → ((graph_of l.graph).node (get_or l.nodes k 0)).kind ≡ Opin → get_or l.nodes k 0 ≡ l.pin
