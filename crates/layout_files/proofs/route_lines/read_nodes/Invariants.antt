use Rattle.layout_files.proofs.Prelude.{◌≡◌, ◌≤◌, ◌<◌, ℕ, List, All, [], ◌∷◌, ◌++◌, Some, length, Node, node_text_of, line_of, text_of, size, IsSmallNode, EndsAtSink, node_lines}
use Rattle.layout_files.proofs.Halfway.{Halfway}
use Rattle.layout_files.proofs.route_lines.read_nodes.Given as goal

-- some nodes are read, the sink not yet, and the lines of the others are left
abbrev pub invariant-loop-cursor : goal.invariant-loop-cursor
invariant-loop-cursor l = record {
  read : (rows : ℕ) (path : List Node) (after : List ℕ) → All IsSmallNode path → EndsAtSink path → l.initial.cursor ≡ Some (text_of (node_lines rows path) ++ after)
      → Halfway (λ k node. line_of (node_text_of rows node ∷ [])) (λ node. node) path after l.nodes.items l.cursor × (length l.nodes.items < length path);
  shorter : size l.cursor ≤ size l.initial.cursor;
}

abbrev pub decreases-loop-cursor : goal.decreases-loop-cursor
decreases-loop-cursor l = size l.cursor
