use Rattle.layout_files.proofs.Prelude.{◌≡◌, ◌≤◌, ℕ, List, All, ◌∷◌, ◌++◌, Some, flat_map, Node, text_of, size, IsSmallNode, EndsAtSink, node_lines}
use Rattle.layout_files.proofs.Halfway.{Halfway}
use Rattle.layout_files.proofs.route_lines.read_paths.Given as goal

-- some paths are read, and the lines of the others are left
abbrev pub invariant-loop-alloc : goal.invariant-loop-alloc
invariant-loop-alloc l = record {
  read : (rows : ℕ) (paths : List (List Node)) (after : List ℕ) → All (All IsSmallNode) paths → All EndsAtSink paths → l.initial.cursor ≡ Some (text_of (flat_map (node_lines rows) paths) ++ (10 ∷ after))
      → Halfway (λ k path. text_of (node_lines rows path)) (λ path. path) paths (10 ∷ after) l.paths.items l.cursor;
  shorter : size l.cursor ≤ size l.initial.cursor;
}

abbrev pub decreases-loop-alloc : goal.decreases-loop-alloc
decreases-loop-alloc l = size l.cursor
