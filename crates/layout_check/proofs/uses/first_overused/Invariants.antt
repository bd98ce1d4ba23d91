use Rattle.layout_check.proofs.Prelude.{◌<◌, ◌≤◌, ℕ, get_or, capacity_of, graph_of}
use Rattle.layout_check.proofs.uses.first_overused.Given as goal

abbrev pub invariant-loop-k : goal.invariant-loop-k
invariant-loop-k l = (j : ℕ) → j < l.k → get_or l.uses j 0 ≤ capacity_of l.graph.arch l.graph.strip ((graph_of l.graph).node j)
