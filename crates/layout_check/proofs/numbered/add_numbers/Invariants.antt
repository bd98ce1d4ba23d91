use Rattle.layout_check.proofs.Prelude.{◌≡◌, ◌++◌, map, true, take, All, is_node, graph_of, number_of}
use Rattle.layout_check.proofs.numbered.add_numbers.Given as goal

abbrev pub invariant-loop-node : goal.invariant-loop-node
invariant-loop-node l =
    (l.numbers.items ≡ l.initial.numbers.items ++ map (number_of (graph_of l.graph)) (take l.node-index l.path))
    × All (λ node. is_node l.graph.arch l.graph.strip node ≡ true) (take l.node-index l.path)
