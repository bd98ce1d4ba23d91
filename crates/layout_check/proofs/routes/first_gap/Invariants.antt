use Rattle.layout_check.proofs.Prelude.{◌≡◌, ◌<◌, ℕ, true, get_or, is_edge, graph_of}
use Rattle.layout_check.proofs.routes.first_gap.Given as goal

abbrev pub invariant-loop-hop : goal.invariant-loop-hop
invariant-loop-hop l = (k : ℕ) → k < l.hop-index → is_edge l.graph.arch l.graph.strip ((graph_of l.graph).node (get_or l.hops k (0, 0)).0) ((graph_of l.graph).node (get_or l.hops k (0, 0)).1) ≡ true
